-- An answer to the question at which a run stands.
use Rattle.std.proofs.Common.{◌≡◌, ℕ, Bool, true, false, List, [], ◌∷◌, ◌++◌, Some, ◌==◌, sym, ◌∙◌, ap, subst}
use Rattle.std.specs.Prelude.{reverse, if◌then◌else◌}
use Rattle.std.proofs.lemmas.List.{reverse-append, reverse-reverse}
use Rattle.access_slots.specs.Access.{is_no_room}
use Rattle.access_slots.specs.declared.op.Op.{Op}
use Rattle.access_slots.specs.declared.op.Said.{Said}
use Rattle.semantics.specs.Step.{Setting, register}
use Rattle.semantics.specs.Reach.{Stop, Asked, reach}
use Rattle.verifier.specs.Checked.{Checked}
use Rattle.interpreter.specs.Standing.{Standing}
use Rattle.interpreter.specs.Runs.{Continues, setting_of}
use Rattle.interpreter.proofs.Resumed.{asked_slot}
use Rattle.transactions.specs.Reached.{plain, stop_at}
use Rattle.tc_core.proofs.Resuming.{paused, continues}
use Rattle.call_results.specs.Results.{there_after, there_at, holds_record}
use Rattle.call_results.specs.Joining.Along.{MayHear}
use Rattle.call_results.specs.declared.rerun.Rerun.{Rerun}

-- one answer more
holds_snoc : (s : Setting) (k : ℕ) (answers : List Said) (a : Said)
    → holds_record s k (reverse (answers ++ a ∷ [])) ≡ there_at (reach s answers) k a (holds_record s k (reverse answers))
holds_snoc s k answers a =
    ap (holds_record s k) (reverse-append answers (a ∷ []))
    ∙ ap (λ (xs : List Said). there_at (reach s xs) k a (holds_record s k (reverse answers))) (reverse-reverse answers)

-- the machine stands at the question
asks_by : (q : Checked) (r : Rerun) (args : List ℕ) (answers : List Said) (o : Op) (said : Said) → MayHear q r args answers o said
    → (slot : ℕ) × (stop_at q args answers ≡ Asked slot o r.machine.config)
asks_by q r args answers o said m = paused r.pause r.machine.config (stop_at q args answers) o m.runs.pauses m.asks

-- and names its slot
pub names_slot : (q : Checked) (r : Rerun) (args : List ℕ) (answers : List Said) (o : Op) (said : Said) → MayHear q r args answers o said
    → (slot : ℕ) × (register r.machine.config 1 ≡ Some slot)
unfolding stop_at
names_slot q r args answers o said m =
    let at = asks_by q r args answers o said m in
    (at.0, asked_slot (plain q args) answers at.0 o r.machine.config at.1)

-- what is known of the slot then
pub there_then : (q : Checked) (r : Rerun) (args : List ℕ) (answers : List Said) (o : Op) (said : Said) (there : Bool) → MayHear q r args answers o said
    → ((k : ℕ) → register r.machine.config 1 ≡ Some k → there ≡ (if k == r.slot then there_after o said r.is_there else r.is_there))
    → there ≡ holds_record (plain q args) r.slot (reverse (answers ++ said ∷ []))
unfolding stop_at asks_by names_slot
there_then q r args answers o said there m noted =
    let at = asks_by q r args answers o said m in
    let named = names_slot q r args answers o said m in
    let s = plain q args in
    let was = holds_record s r.slot (reverse answers) in
    noted at.0 named.1
    ∙ (ap (λ (b : Bool). if at.0 == r.slot then there_after o said b else b) m.runs.there
    ∙ (sym (ap (λ (st : Stop). there_at st r.slot said was) at.1) ∙ sym (holds_snoc s r.slot answers said)))

-- the machine goes on with the answer
pub goes_on : (q : Checked) (r : Rerun) (m : Standing) (args : List ℕ) (answers : List Said) (o : Op) (said : Said) → MayHear q r args answers o said
    → is_no_room said ≡ false → m ≡ r.machine → Continues (setting_of q m.args m.bases) m.config (Some said) (answers ++ said ∷ [])
goes_on q r m args answers o said may room same =
    subst (λ (x : Standing). Continues (setting_of q x.args x.bases) x.config (Some said) (answers ++ said ∷ [])) (sym same)
    (continues q r.machine r.pause args answers o said may.runs.call may.runs.layout may.runs.pauses may.fitting may.asks may.fit room)
