-- One procedure more.
use Rattle.std.proofs.Common.{◌≡◌, ℕ, List, [], ◌∷◌, ◌++◌, None, sym, subst, inl, inr}
use Rattle.verifier.specs.Checked.{Checked}
use Rattle.transactions.specs.Reached.{IsGood, AllGood}
use Rattle.transactions.proofs.Grows.{get_cases, good_grows}
use Rattle.tc_core.specs.Loaded.{unknown_dc, AllReach}

pub reach_grows : (dcs : ℕ) (ps : List Checked) (q : Checked) → AllReach dcs ps → unknown_dc dcs q.decl.slots ≡ None → AllReach dcs (ps ++ q ∷ [])
reach_grows dcs ps q all one = λ p v at. elim (get_cases ps q v p at) [
  | inl there ↦ all p v there
  | inr new ↦ subst (λ (x : Checked). unknown_dc dcs x.decl.slots ≡ None) new one
]

pub now_good : (ps ps' : List Checked) (q : Checked) → ps' ≡ ps ++ q ∷ [] → AllGood ps → IsGood q → AllGood ps'
now_good ps ps' q more all one = subst (λ (xs : List Checked). AllGood xs) (sym more) (good_grows ps q all one)

pub now_reach : (dcs : ℕ) (ps ps' : List Checked) (q : Checked) → ps' ≡ ps ++ q ∷ [] → AllReach dcs ps
    → unknown_dc dcs q.decl.slots ≡ None → AllReach dcs ps'
now_reach dcs ps ps' q more all one = subst (λ (xs : List Checked). AllReach dcs xs) (sym more) (reach_grows dcs ps q all one)
