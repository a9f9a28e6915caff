-- The keys of open transactions, as events go on.
use Rattle.std.proofs.Common.{◌≡◌, ◌≢◌, ℕ, List, Option, Some, None, refl, sym, ◌∙◌, ap, inl, inr}
use Rattle.std.specs.Prelude.{nat_eq, slice_index_or}
use Rattle.std.proofs.lemmas.Bool.{cases_eq}
use Rattle.std.specs.Map.{lookup}
use Rattle.slab.specs.Slab.{Slab, get, Updates}
use Rattle.tc_core.specs.AtKey.{StandsAt}
use Rattle.tc_core.specs.Joining.Boxes.{AreKeys}
use Rattle.tc_core.specs.Joining.Keys.{Keys, key_of, Changes}
use Rattle.tc_core.specs.declared.transaction.Tx.{Tx}
use Rattle.transactions.proofs.StandingLemmas.{some_same, none_some}

-- the transaction at a key goes on
pub keys-moved : (keys : Keys) (txns txns' : Slab Tx) (key : ℕ) (tx tx' : Tx)
    → AreKeys keys txns → get txns key ≡ Some tx → Updates txns txns' key (Some tx') → tx'.serial ≡ tx.serial → AreKeys keys txns'
keys-moved keys txns txns' key tx tx' a found up same = record {
  keyed = λ k ty at. elim (cases_eq k key) [
    | inl is_key ↦
        let it : tx' ≡ ty = some_same tx' ty (sym up.changed ∙ (ap (get txns') (sym is_key) ∙ at)) in
        ap (key_of keys) (sym (ap (λ (x : Tx). x.serial) it) ∙ same) ∙ (a.keyed key tx found ∙ ap (λ (n : ℕ). Some n) (sym is_key))
    | inr other ↦ a.keyed k ty (sym (up.others k other) ∙ at)
  ];
  listed = λ t k at.
      let s = a.listed t k at in
      elim (cases_eq k key) [
        | inl is_key ↦
            let it : tx ≡ s.tx = some_same tx s.tx (sym found ∙ (ap (get txns) (sym is_key) ∙ s.found)) in
            record { tx = tx'; found = ap (get txns') is_key ∙ up.changed; serial = same ∙ (ap (λ (x : Tx). x.serial) it ∙ s.serial) }
        | inr other ↦ record { tx = s.tx; found = up.others k other ∙ s.found; serial = s.serial }
      ];
}

-- it ends
pub keys-ended : (keys keys' : Keys) (txns txns' : Slab Tx) (key : ℕ) (tx : Tx)
    → AreKeys keys txns → get txns key ≡ Some tx → Updates txns txns' key None → Changes keys keys' tx.serial None → AreKeys keys' txns'
keys-ended keys keys' txns txns' key tx a found up gone =
    record {
      keyed = λ k ty at.
          let differ : k ≢ key = (λ e. none_some _ ty up.changed (ap (get txns') (sym e) ∙ at)) in
          let was = a.keyed k ty (sym (up.others k differ) ∙ at) in
          let other : ty.serial ≢ tx.serial = (λ e. differ (some_same k key (sym was ∙ (ap (key_of keys) e ∙ a.keyed key tx found)))) in
          gone.others ty.serial other ∙ was;
      listed = λ t k at. elim (cases_eq t tx.serial) [
        | inl same ↦ absurd (none_some _ k gone.here (ap (key_of keys') (sym same) ∙ at))
        | inr other ↦
            let s = a.listed t k (sym (gone.others t other) ∙ at) in
            let differ : k ≢ key = (λ e. other (sym s.serial ∙ ap (λ (x : Tx). x.serial) (some_same s.tx tx (sym s.found ∙ (ap (get txns) e ∙ found))))) in
            record { tx = s.tx; found = up.others k differ ∙ s.found; serial = s.serial }
      ];
    }

-- where no transaction has the serial number it has no key
pub no-key : (keys : Keys) (txns : Slab Tx) (t : ℕ) → AreKeys keys txns → ((k : ℕ) (ty : Tx) → get txns k ≡ Some ty → ty.serial ≢ t) → key_of keys t ≡ None
no-key keys txns t a fresh = by (key_of keys t) refl
  where
    by : (o : Option ℕ) → key_of keys t ≡ o → o ≡ None
    by None e = refl
    by (Some k) e = (let s = a.listed t k e in absurd (fresh k s.tx s.found s.serial))

-- one more, under a new serial number
pub keys-entered : (keys keys' : Keys) (txns txns' : Slab Tx) (key : ℕ) (tx : Tx)
    → AreKeys keys txns → get txns key ≡ None → Updates txns txns' key (Some tx)
    → Changes keys keys' tx.serial (Some key) → ((k : ℕ) (ty : Tx) → get txns k ≡ Some ty
    → ty.serial ≢ tx.serial) → AreKeys keys' txns'
keys-entered keys keys' txns txns' key tx a vacant up new fresh =
    record {
      keyed = λ k ty at. elim (cases_eq k key) [
        | inl is_key ↦
            let it : tx ≡ ty = some_same tx ty (sym up.changed ∙ (ap (get txns') (sym is_key) ∙ at)) in
            ap (key_of keys') (sym (ap (λ (x : Tx). x.serial) it)) ∙ (new.here ∙ ap (λ (n : ℕ). Some n) (sym is_key))
        | inr other ↦
            let was = sym (up.others k other) ∙ at in
            new.others ty.serial (fresh k ty was) ∙ a.keyed k ty was
      ];
      listed = λ t k at. elim (cases_eq t tx.serial) [
        | inl same ↦
            let it : key ≡ k = some_same key k (sym new.here ∙ (ap (key_of keys') (sym same) ∙ at)) in
            record { tx = tx; found = ap (get txns') (sym it) ∙ up.changed; serial = sym same }
        | inr other ↦
            let s = a.listed t k (sym (new.others t other) ∙ at) in
            let differ : k ≢ key = (λ e. none_some _ s.tx vacant (ap (get txns) (sym e) ∙ s.found)) in
            record { tx = s.tx; found = up.others k differ ∙ s.found; serial = s.serial }
      ];
    }

-- nothing but room changes
pub keys-room : (keys keys' : Keys) (txns txns' : Slab Tx) → AreKeys keys txns
    → keys'.entries ≡ keys.entries → txns'.slots ≡ txns.slots → AreKeys keys' txns'
keys-room keys keys' txns txns' a same_entries same_slots =
    let same : (key : ℕ) → get txns' key ≡ get txns key = (λ key. ap (λ (xs : List (Option Tx)). slice_index_or xs key None) same_slots) in
    let same_keys : (t : ℕ) → key_of keys' t ≡ key_of keys t = (λ t. ap (lookup (nat_eq t)) same_entries) in
    record {
      keyed = λ k ty at. same_keys ty.serial ∙ a.keyed k ty (sym (same k) ∙ at);
      listed = λ t k at. (let s = a.listed t k (sym (same_keys t) ∙ at) in record { tx = s.tx; found = same k ∙ s.found; serial = s.serial });
    }

-- what stands at the key of a transaction is that one
pub serial-at : (txns : Slab Tx) (key t : ℕ) (tx : Tx) → StandsAt txns key t → get txns key ≡ Some tx → tx.serial ≡ t
serial-at txns key t tx s found = sym (ap (λ (x : Tx). x.serial) (some_same s.tx tx (sym s.found ∙ found))) ∙ s.serial
