-- A machine goes on with an answer.
use Rattle.std.proofs.Common.{◌≡◌, ℕ, true, false, List, [], ◌∷◌, ◌++◌, Some, None, refl, sym, subst, ap, ◌∙◌}
use Rattle.access_slots.specs.Access.{fits, is_no_room}
use Rattle.access_slots.specs.declared.op.Op.{Op}
use Rattle.access_slots.specs.declared.op.Said.{Said}
use Rattle.semantics.specs.Step.{Config, Bases}
use Rattle.semantics.specs.Reach.{Stop, Asked, entry, reach}
use Rattle.semantics.specs.Row.{plain_bases}
use Rattle.verifier.specs.Checked.{Checked}
use Rattle.interpreter.specs.Standing.{Standing}
use Rattle.interpreter.specs.Gives.{Pauses}
use Rattle.interpreter.specs.Runs.{Continues, setting_of}
use Rattle.interpreter.specs.declared.pause.Pause.{Pause}
use Rattle.interpreter.specs.declared.pause.Pause.TheVariants as pause
use Rattle.transactions.specs.Reached.{Asks, Ends, reached_of, stop_at, Fitting}
use Rattle.transactions.proofs.Running.{fitting_snoc}
use Rattle.tc_core.specs.Running.{MayResume, as_reached}
use Rattle.tc_core.specs.declared.transaction.Tx.{Tx}

-- what the machine stopped at is what the run has reached
pub paused_reached : (p : Pause) (c : Config) (st : Stop) → Pauses p c st → reached_of st ≡ as_reached p
paused_reached (pause.Ask o) c st h = ap reached_of h.1
paused_reached (pause.Exit v) c st h = ap reached_of h

pub paused : (p : Pause) (c : Config) (st : Stop) (o : Op) → Pauses p c st → reached_of st ≡ Asks o → (slot : ℕ) × (st ≡ Asked slot o c)
paused (pause.Ask p) c st o h e =
    let f : Asks p ≡ Asks o = sym (ap reached_of h.1) ∙ e in
    let same : p ≡ o = cc in
    (h.0, h.1 ∙ ap (λ (x : Op). Asked h.0 x c) same)
paused (pause.Exit v) c st o h e = absurd (let f : Ends v ≡ Asks o = sym (ap reached_of h) ∙ e in cc)

pub continues : (q : Checked) (m : Standing) (p : Pause) (args : List ℕ) (answers : List Said) (o : Op) (said : Said)
    → m.args ≡ args → m.bases ≡ plain_bases → Pauses p m.config (stop_at q args answers) → Fitting q args answers
    → reached_of (stop_at q args answers) ≡ Asks o → fits o said ≡ true → is_no_room said ≡ false
    → Continues (setting_of q m.args m.bases) m.config (Some said) (answers ++ said ∷ [])
unfolding stop_at Fitting
continues q m p args answers o said same_args same_bases pauses fit asks f room =
    let at = paused p m.config (stop_at q args answers) o pauses asks in
    let it : Continues (setting_of q args plain_bases) m.config (Some said) (answers ++ said ∷ []) =
    ((answers, at.0, o, refl, at.1), fitting_snoc q args answers said o fit asks f room) in
    subst (λ (xs : List ℕ). Continues (setting_of q xs m.bases) m.config (Some said) (answers ++ said ∷ [])) (sym same_args)
    (subst (λ (b : Bases). Continues (setting_of q args b) m.config (Some said) (answers ++ said ∷ [])) (sym same_bases) it)

pub may_continue : (q : Checked) (tx : Tx) (args : List ℕ) (answers : List Said) (o : Op) (said : Said)
    → MayResume q tx args answers o said → is_no_room said ≡ false
    → Continues (setting_of q tx.machine.args tx.machine.bases) tx.machine.config (Some said) (answers ++ said ∷ [])
may_continue q tx args answers o said m room =
    continues q tx.machine tx.pause args answers o said m.runs.call m.runs.layout m.runs.pauses m.fit m.asks m.fits room

-- what was promised of the run on the machine's own arguments, of the plain one
pub pauses_plain : (q : Checked) (m : Standing) (p : Pause) (c : Config) (args : List ℕ) (answers : List Said)
    → m.args ≡ args → m.bases ≡ plain_bases → Pauses p c (reach (setting_of q m.args m.bases) answers)
    → Pauses p c (stop_at q args answers)
unfolding stop_at
pauses_plain q m p c args answers same_args same_bases h =
    subst (λ (b : Bases). Pauses p c (reach (setting_of q args b) answers)) same_bases
    (subst (λ (xs : List ℕ). Pauses p c (reach (setting_of q xs m.bases) answers)) same_args h)

-- a machine that was started goes on from the entry
pub starts : (q : Checked) (m : Standing) (args : List ℕ) (b : Bases) → m.config ≡ entry (setting_of q args b)
    → m.args ≡ args → m.bases ≡ b → Continues (setting_of q m.args m.bases) m.config None []
starts q m args b at same_args same_bases =
    (at ∙ (ap (λ (xs : List ℕ). entry (setting_of q xs b)) (sym same_args) ∙ ap (λ (x : Bases). entry (setting_of q m.args x)) (sym same_bases)), refl)
