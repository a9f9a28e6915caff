-- What is known of each slot by the ways from those before it.
use Rattle.std.proofs.Common.{◌≡◌, ◌≢◌, ℕ, ◌+◌, ◌<◌, ◌≤◌, Bool, true, false, Option, Some, None, Result, Ok, List, []}
use Rattle.std.proofs.Common.{◌∷◌, length, cond, refl, sym, ap, ap₂, ◌∙◌, arith, add-one}
use Rattle.std.specs.Prelude.{slice_get}
use Rattle.std.proofs.lemmas.Bool.{eq-eqb, ne_eqb}
use Rattle.bpf_encoding.specs.Spelling.{is_wide, places_from, places_of}
use Rattle.bpf_encoding.specs.declared.insn.Insn.{Insn}
use Rattle.bpf_encoding.specs.declared.insn.Place.{Place}
use Rattle.bpf_encoding.specs.declared.insn.Place.TheVariants as place
use Rattle.access_slots.specs.Declaration.{Declaration}
use Rattle.register_kinds.specs.declared.effect.Effect.{Effect}
use Rattle.register_kinds.specs.declared.kind.Violation.{Violation}
use Rattle.register_kinds.specs.declared.kinds.Kinds.{Kinds}
use Rattle.register_kinds.specs.declared.kinds.Ways.{Ways}
use Rattle.register_kinds.specs.Kinds.{entry_kinds, join_kinds}
use Rattle.register_kinds.specs.Arriving.{next_place, jump_place, merge, along, along_ways, along_from, arriving, violation_by, violation_at}
use Rattle.register_kinds.specs.Effects.{next_by, jump_by, result_by}
use Rattle.register_kinds.specs.Transfer.{transfer_of}
use Rattle.register_kinds.proofs.Orders.{along_swap}
use Rattle.verifier.specs.Joining.Table.{Table, kept, HasArrived}

-- ---- ways

-- where nothing waits, what falls to a slot is all that is known there
pub along_alone : (at : ℕ) (falling : Option Kinds) → along (Some at) falling at None ≡ falling
along_alone at None = refl
along_alone at (Some ks) = ap (λ (b : Bool). cond b (Some ks) None) (eq-eqb at at refl)

pub along_both : (at : ℕ) (waiting falling : Kinds) → along (Some at) (Some falling) at (Some waiting) ≡ Some (join_kinds waiting falling)
along_both at waiting falling = ap (λ (b : Bool). cond b (Some (join_kinds waiting falling)) (Some waiting)) (eq-eqb at at refl)

pub along_elsewhere : (to at : ℕ) (after before : Option Kinds) → at ≢ to → along (Some to) after at before ≡ before
along_elsewhere to at None before ne = refl
along_elsewhere to at (Some after) before ne = ap (λ (b : Bool). cond b (Some (merge before after)) before) (ne_eqb at to ne)

-- an instruction: first the jump's way is taken, and then the way to the next instruction
pub stepped : (decl : Declaration) (at k : ℕ) (i : Insn) (ks after : Kinds) (e : Effect) (target : Option ℕ) (next : ℕ)
    (falls stays : Bool) (before waiting now : Option Kinds)
    → along (Some (at + 1)) (cond stays (Some after) None) k now ≡ along (Some next) (cond falls (Some after) None) k waiting
    → next_by ks e ≡ cond falls (Some after) None → waiting ≡ along target (jump_by ks e) k before
    → target ≡ jump_place at i → next ≡ next_place at i → result_by ks (Ok e) ≡ transfer_of decl i ks
    → along (Some (at + 1)) (cond stays (Some after) None) k now ≡ along_from decl at (Some (place.Insn i)) (Some ks) k before
stepped decl at k i ks after e target next falls stays before waiting now fell falling jumped to behind is =
    fell ∙ ap (λ (o : Option Kinds). along (Some next) o k waiting) (sym falling) ∙ ap (along (Some next) (next_by ks e) k) jumped
    ∙ along_swap (Some next) target (next_by ks e) (jump_by ks e) k before
    ∙ ap (λ (t : Option ℕ). along t (jump_by ks e) k (along (Some next) (next_by ks e) k before)) to
    ∙ ap (λ (n : ℕ). along (jump_place at i) (jump_by ks e) k (along (Some n) (next_by ks e) k before)) behind
    ∙ ap (λ (r : Result Ways Violation). along_ways at i r k before) is

-- ---- one slot more

pub arrived_on : (decl : Declaration) (code : List Place) (at : ℕ) (p : Option Place) (falling here later : Option Kinds) (old reached new : Table)
    → at < length code → slice_get code at ≡ p → HasArrived decl code at falling old
    → here ≡ along (Some at) falling at (kept old at) → ((k : ℕ) → k ≢ at → kept reached k ≡ kept old k) → length new ≡ length old
    → ((k : ℕ) → at < k → k < length code → along (Some (at + 1)) later k (kept new k) ≡ along_from decl at p here k (kept reached k))
    → HasArrived decl code (at + 1) later new
arrived_on decl code at p falling here later old reached new lt stands arrived is others same ways = record {
  long = same ∙ arrived.long;
  each = λ k le lt'.
      let ne : k ≢ at = omega (arith, le) in
      let known : kept reached k ≡ arriving decl code at k = others k ne ∙ sym (along_elsewhere at k falling (kept old k) ne) ∙ arrived.each k (omega (arith, le)) lt' in
      ways k (omega (arith, le)) lt'
      ∙ ap₂ (λ (q : Option Place) (ks : Option Kinds). along_from decl at q ks k (kept reached k)) (sym stands) (is ∙ arrived.each at (omega arith) lt)
      ∙ ap (along_from decl at (slice_get code at) (arriving decl code at at) k) known ∙ ap (λ (n : ℕ). arriving decl code n k) (sym (add-one at));
}

-- what is known of the slot that is reached
pub violation_is : (decl : Declaration) (code : List Place) (at : ℕ) (p : Option Place) (here : Option Kinds)
    → slice_get code at ≡ p → here ≡ arriving decl code at at
    → violation_by decl p here ≡ violation_at decl code at
violation_is decl code at p here stands known = ap₂ (violation_by decl) (sym stands) known

pub known_here : (decl : Declaration) (code : List Place) (at : ℕ) (falling here : Option Kinds) (waiting : Table)
    → at < length code → HasArrived decl code at falling waiting
    → here ≡ along (Some at) falling at (kept waiting at) → here ≡ arriving decl code at at
known_here decl code at falling here waiting lt arrived is = is ∙ arrived.each at (omega arith) lt

-- ---- the entry

pub entered : (decl : Declaration) (code : List Place) (waiting : Table) → length waiting ≡ length code
    → ((at : ℕ) → kept waiting at ≡ None) → HasArrived decl code 0 (Some entry_kinds) waiting
entered decl code waiting long blank = record { long = long; each = λ at le lt. ap (along (Some 0) (Some entry_kinds) at) (blank at) }

next_when : (at : ℕ) (i : Insn) (b : Bool) → is_wide i ≡ b → at + length (places_of (i ∷ [])) ≡ next_place at i
next_when at i true e = ap (λ (b : Bool). at + length (place.Insn i ∷ places_from b [])) e ∙ ap (λ (b : Bool). cond b (at + 2) (at + 1)) (sym e)
next_when at i false e = ap (λ (b : Bool). at + length (place.Insn i ∷ places_from b [])) e ∙ ap (λ (b : Bool). cond b (at + 2) (at + 1)) (sym e)

pub next_is : (at : ℕ) (i : Insn) → at + length (places_of (i ∷ [])) ≡ next_place at i
next_is at i = next_when at i (is_wide i) refl
