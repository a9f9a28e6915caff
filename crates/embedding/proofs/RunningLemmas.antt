-- A machine begins and goes on as the run of its code does.
use Rattle.std.proofs.Common.{◌≡◌, ℕ, true, false, List, [], ◌∷◌, ◌++◌, Option, Some, None, refl, sym, subst, ap, ◌∙◌}
use Rattle.std.specs.Prelude.{is_some}
use Rattle.access_slots.specs.Access.{fits, is_no_room}
use Rattle.access_slots.specs.declared.op.Op.{Op}
use Rattle.access_slots.specs.declared.op.Said.{Said}
use Rattle.semantics.specs.Step.{Bases}
use Rattle.semantics.specs.Reach.{entry, reach}
use Rattle.semantics.specs.Row.{plain_bases}
use Rattle.verifier.specs.Checked.{Checked}
use Rattle.interpreter.specs.Standing.{Standing, IsStarted}
use Rattle.interpreter.specs.Gives.{Pauses}
use Rattle.interpreter.specs.Runs.{Continues, setting_of, run_of}
use Rattle.interpreter.specs.declared.pause.Pause.{Pause}
use Rattle.interpreter.specs.declared.pause.Pause.TheVariants as pause
use Rattle.transactions.specs.Reached.{reached_of, stop_at, Fitting}
use Rattle.transactions.proofs.Running.{fitting_snoc, fitting_none}
use Rattle.embedding.specs.Running.{Stands, IsFine, run_by, WaitsBehind, WaitsIfAsked, StopsAt}
use Rattle.embedding.specs.declared.program.Run.{Run}

-- what is said of the run on the machine's own arguments and addresses, of the plain one
plainly : (q : Checked) (m m' : Standing) (p : Pause) (answers : List Said) → m'.args ≡ m.args → m.bases ≡ plain_bases
    → Pauses p m'.config (reach (run_of q m) answers) → Pauses p m'.config (stop_at q m'.args answers)
unfolding stop_at
plainly q m m' p answers args bases h =
    subst (λ (b : Bases). Pauses p m'.config (reach (setting_of q m'.args b) answers)) bases
    (subst (λ (xs : List ℕ). Pauses p m'.config (reach (setting_of q xs m.bases) answers)) (sym args) h)

-- a machine that was just started stands at the entry
pub from_entry : (q : Checked) (m : Standing) (args : List ℕ) → m.config ≡ entry (setting_of q args plain_bases) → m.args ≡ args → m.bases ≡ plain_bases
    → Continues (run_of q m) m.config None []
from_entry q m args at same_args same_bases =
    (at ∙ (ap (λ (xs : List ℕ). entry (setting_of q xs plain_bases)) (sym same_args) ∙ ap (λ (b : Bases). entry (setting_of q m.args b)) (sym same_bases)), refl)

pub begun : (q : Checked) (m m' : Standing) (p : Pause) (args : List ℕ) → m.config ≡ entry (setting_of q args plain_bases) → m.args ≡ args → m.bases ≡ plain_bases
    → IsStarted q.decl m' → m'.args ≡ m.args → m'.bases ≡ m.bases
    → ((xs : List Said) → Continues (run_of q m) m.config None xs → Pauses p m'.config (reach (run_of q m) xs)) → Stands q m' p []
begun q m m' p args at same_args same_bases started kept_args kept_bases stops = record {
  started = started;
  layout = kept_bases ∙ same_bases;
  fit = fitting_none q m'.args;
  pauses = plainly q m m' p [] kept_args same_bases (stops [] (from_entry q m args at same_args same_bases));
}

-- one that asked goes on with an answer that fits
pub from_question : (q : Checked) (m : Standing) (o : Op) (answers : List Said) (said : Said) → Stands q m (pause.Ask o) answers → fits o said ≡ true
    → is_no_room said ≡ false → Continues (run_of q m) m.config (Some said) (answers ++ said ∷ [])
unfolding stop_at Fitting
from_question q m o answers said s f room =
    let it : Continues (setting_of q m.args plain_bases) m.config (Some said) (answers ++ said ∷ []) =
    ((answers, s.pauses.0, o, refl, s.pauses.1), fitting_snoc q m.args answers said o s.fit (ap reached_of s.pauses.1) f room) in
    subst (λ (b : Bases). Continues (setting_of q m.args b) m.config (Some said) (answers ++ said ∷ [])) (sym s.layout) it

fits_on : (q : Checked) (m : Standing) (o : Op) (answers : List Said) (said : Said) → Stands q m (pause.Ask o) answers → fits o said ≡ true
    → is_no_room said ≡ false → Fitting q m.args (answers ++ said ∷ [])
unfolding stop_at
fits_on q m o answers said s f room = fitting_snoc q m.args answers said o s.fit (ap reached_of s.pauses.1) f room

pub went_on : (q : Checked) (m m' : Standing) (o : Op) (p : Pause) (answers : List Said) (said : Said) → Stands q m (pause.Ask o) answers → fits o said ≡ true
    → is_no_room said ≡ false → IsStarted q.decl m' → m'.args ≡ m.args → m'.bases ≡ m.bases
    → ((xs : List Said) → Continues (run_of q m) m.config (Some said) xs → Pauses p m'.config (reach (run_of q m) xs)) → Stands q m' p (answers ++ said ∷ [])
went_on q m m' o p answers said s f room started kept_args kept_bases stops = record {
  started = started;
  layout = kept_bases ∙ s.layout;
  fit = subst (λ (xs : List ℕ). Fitting q xs (answers ++ said ∷ [])) (sym kept_args) (fits_on q m o answers said s f room);
  pauses = plainly q m m' p (answers ++ said ∷ []) kept_args s.layout (stops (answers ++ said ∷ []) (from_question q m o answers said s f room));
}

-- what is kept of it is fine, and waits where it asks
pub fine_by : (q : Checked) (m : Standing) (p : Pause) (answers : List Said) → Stands q m p answers → IsFine q (run_by p m)
fine_by q m (pause.Ask o) answers s = (answers, s)
fine_by q m (pause.Exit v) answers s = tt

waits_by : (q : Checked) (m : Standing) (p : Pause) (args : List ℕ) (answers : List Said) → Stands q m p answers → m.args ≡ args → WaitsIfAsked q args answers p (run_by p m)
waits_by q m (pause.Ask o) args answers s call = record { r = record { machine = m; op = o }; is = refl; op = refl; call = call; stands = s }
waits_by q m (pause.Exit v) args answers s call = refl

pub stops_by : (q : Checked) (m : Standing) (p : Pause) (args : List ℕ) (answers : List Said) (taken : ℕ) (run : Option Run) → Stands q m p answers → m.args ≡ args
    → taken ≡ m.config.taken → run ≡ run_by p m → StopsAt q args answers p taken run
stops_by q m p args answers taken run s call count is = record {
  config = m.config;
  pauses = subst (λ (xs : List ℕ). Pauses p m.config (stop_at q xs answers)) call s.pauses;
  count = count;
  waits = subst (WaitsIfAsked q args answers p) (sym is) (waits_by q m p args answers s call);
}

-- whether a run waits
pub waits_not : (run : Option Run) → is_some run ≡ false → run ≡ None
waits_not None idle = refl
waits_not (Some r) idle = absurd (let bad : true ≡ false = idle in cc)

pub waits_some : (run : Option Run) → is_some run ≡ true → run ≡ None → ⊥
waits_some None waits none = absurd (let bad : false ≡ true = waits in cc)
waits_some (Some r) waits none = absurd (let bad : Some r ≡ None = none in cc)

-- the run that waits is the one that is kept
pub waits_on : (q : Checked) (run : Option Run) (r : Run) (args : List ℕ) (answers : List Said) (o : Op) → run ≡ Some r → WaitsBehind q args answers o run
    → (r.op ≡ o) × (r.machine.args ≡ args) × Stands q r.machine (pause.Ask o) answers
waits_on q run r args answers o is w =
    let both : Some w.r ≡ Some r = sym w.is ∙ is in let same : w.r ≡ r = cc in
    subst (λ (x : Run). (x.op ≡ o) × (x.machine.args ≡ args) × Stands q x.machine (pause.Ask o) answers) same (w.op, w.call, w.stands)
