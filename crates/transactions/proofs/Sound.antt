-- What each open transaction keeps.
use Rattle.std.proofs.Common.{◌≡◌, ◌≢◌, ℕ, zero, suc, ◌+◌, ◌-◌, ◌*◌, ◌<◌, ◌≤◌, Bool, true, false, not, ◌||◌, cond}
use Rattle.std.proofs.Common.{Option, Some, None, List, [], ◌∷◌, ◌++◌, length, refl, subst, sym, ap, ◌∙◌, arith}
use Rattle.std.specs.Prelude.{slice_get}
use Rattle.std.proofs.lemmas.List.{length-append}
use Rattle.access_slots.specs.Access.{fits, is_no_room}
use Rattle.access_slots.specs.Held.{Wanted}
use Rattle.access_slots.specs.declared.op.Op.{Op}
use Rattle.access_slots.specs.declared.op.Op.TheVariants.{Read, Insert, Update, Delete}
use Rattle.access_slots.specs.declared.op.Said.{Said}
use Rattle.access_slots.specs.declared.op.Said.TheVariants.{Value, Absent, Done, Duplicate, Missing, NoRoom, Old}
use Rattle.semantics.specs.Reach.{AreArguments}
use Rattle.tc_log.specs.declared.event.Event.{Event}
use Rattle.verifier.specs.Checked.{Checked}
use Rattle.history.specs.Calls.{Call, locks_of}
use Rattle.transactions.specs.declared.Sent.{Sent}
use Rattle.transactions.specs.Standing.{Standing, standing, fresh, asked, undone, answered, inverse, with_undo}
use Rattle.transactions.specs.Standing.{rest_of, told_to, answers_after, found_full, full_after, undo_done}
use Rattle.transactions.specs.Standing.{undo_after, tries_done, tries_after, sent_as}
use Rattle.transactions.specs.Reached.{Reached, Asks, Ends, Nowhere, reached_of, stop_at, reached_by, reached}
use Rattle.transactions.specs.Reached.{Fitting, decls, calls, covers, IsGood, AllGood}
use Rattle.transactions.specs.Legal.{Legal, CanAdmit, CanAsk, CanAnswer, CanUndo, first_undo, is_stopped}
use Rattle.transactions.specs.Room.{one_if, one_unless, one_sent, one_own, asks_of, numbers_left}
use Rattle.transactions.proofs.StandingLemmas.{each_standing, some_same}
use Rattle.transactions.proofs.Running.{asks_covered, asks_few, fitting_snoc, fitting_none}

abbrev pub AllCovered : Wanted → List Op → Type 0
AllCovered w [] = Unit {0}
AllCovered w (o ∷ ops) = covers w o × AllCovered w ops

pub record Sound (ps : List Checked) (s : Standing) : Type 0 where
  pub q : Checked
  pub loaded : slice_get ps s.call.proc ≡ Some q
  pub takes : AreArguments q.decl s.call.args
  pub fit : Fitting q s.call.args s.answers
  pub own : (r : Sent) → s.sent ≡ Some r → r.undoing ≡ false → (s.full ≡ false) × (reached ps s ≡ Asks r.op)
  pub undoes : (r : Sent) → s.sent ≡ Some r → r.undoing ≡ true → 0 < length s.undo
  pub within : (r : Sent) → s.sent ≡ Some r → covers (locks_of (decls ps) s.call) r.op
  pub undo_within : AllCovered (locks_of (decls ps) s.call) s.undo
  pub few : asks_of s ≤ calls ps s.call.proc
  pub spent : s.used + 4 * length s.undo + 4 * one_own s.sent ≤ 5 * asks_of s + s.tries
  pub tries_few : s.tries ≤ 4
  pub tries_owed : s.tries ≤ 4 * length s.undo
  pub writes : length s.undo + one_own s.sent ≤ asks_of s

-- ---- what one answer makes of each part

with_few : (i : Option Op) (ops : List Op) → length (with_undo i ops) ≤ length ops + 1
with_few None ops = omega arith
with_few (Some o) ops = omega arith

with_more : (i : Option Op) (ops : List Op) → length ops ≤ length (with_undo i ops)
with_more None ops = omega arith
with_more (Some o) ops = omega arith

covered_inverses : (w : Wanted) (o : Op) (former : Option (List ℕ)) (ops : List Op) → covers w o → AllCovered w ops
    → AllCovered w (with_undo (inverse o former) ops)
covered_inverses w (Read r) former ops c all = all
covered_inverses w (Insert r v) former ops c all = (c, all)
covered_inverses w (Update r v) None ops c all = all
covered_inverses w (Update r v) (Some x) ops c all = (c, all)
covered_inverses w (Delete r) None ops c all = all
covered_inverses w (Delete r) (Some x) ops c all = (c, all)

covered_rest : (w : Wanted) (ops : List Op) → AllCovered w ops → AllCovered w (rest_of ops)
covered_rest w [] all = tt
covered_rest w (o ∷ ops) all = all.1

covered_done : (w : Wanted) (b : Bool) (o : Op) (said : Said) (ops : List Op) → covers w o → AllCovered w ops → AllCovered w (undo_done b o said ops)
covered_done w true o (Done former) ops c all = covered_rest w ops all
covered_done w false o (Done former) ops c all = covered_inverses w o former ops c all
covered_done w true o (Value v) ops c all = all
covered_done w true o Absent ops c all = all
covered_done w true o Duplicate ops c all = all
covered_done w true o Missing ops c all = all
covered_done w true o NoRoom ops c all = all
covered_done w true o Old ops c all = all
covered_done w false o (Value v) ops c all = all
covered_done w false o Absent ops c all = all
covered_done w false o Duplicate ops c all = all
covered_done w false o Missing ops c all = all
covered_done w false o NoRoom ops c all = all
covered_done w false o Old ops c all = all

rest_shorter : (ops : List Op) → 0 < length ops → length (rest_of ops) + 1 ≡ length ops
rest_shorter [] some = absurd (omega arith)
rest_shorter (o ∷ ops) some = omega arith

spent_done : (b : Bool) (o : Op) (said : Said) (ops : List Op) (tries : ℕ) → tries ≤ 4 → (b ≡ true → 0 < length ops)
    → 4 * length (undo_done b o said ops) + tries ≤ 4 * length ops + 4 * one_unless b + tries_done b said tries
spent_done true o (Done former) ops tries few some = omega (arith, rest_shorter ops (some refl))
spent_done false o (Done former) ops tries few some = omega (arith, with_few (inverse o former) ops)
spent_done true o (Value v) ops tries few some = omega arith
spent_done true o Absent ops tries few some = omega arith
spent_done true o Duplicate ops tries few some = omega arith
spent_done true o Missing ops tries few some = omega arith
spent_done true o NoRoom ops tries few some = omega arith
spent_done true o Old ops tries few some = omega arith
spent_done false o (Value v) ops tries few some = omega arith
spent_done false o Absent ops tries few some = omega arith
spent_done false o Duplicate ops tries few some = omega arith
spent_done false o Missing ops tries few some = omega arith
spent_done false o NoRoom ops tries few some = omega arith
spent_done false o Old ops tries few some = omega arith

grown_done : (b : Bool) (o : Op) (said : Said) (ops : List Op) → length (undo_done b o said ops) ≤ length ops + one_unless b
grown_done true o (Done former) [] = omega arith
grown_done true o (Done former) (x ∷ ops) = omega arith
grown_done false o (Done former) ops = omega (arith, with_few (inverse o former) ops)
grown_done true o (Value v) ops = omega arith
grown_done true o Absent ops = omega arith
grown_done true o Duplicate ops = omega arith
grown_done true o Missing ops = omega arith
grown_done true o NoRoom ops = omega arith
grown_done true o Old ops = omega arith
grown_done false o (Value v) ops = omega arith
grown_done false o Absent ops = omega arith
grown_done false o Duplicate ops = omega arith
grown_done false o Missing ops = omega arith
grown_done false o NoRoom ops = omega arith
grown_done false o Old ops = omega arith

owed_done : (b : Bool) (o : Op) (said : Said) (ops : List Op) (tries : ℕ) → tries ≤ 4 * length ops
    → tries_done b said tries ≤ 4 * length (undo_done b o said ops)
owed_done true o (Done former) ops tries few = omega arith
owed_done false o (Done former) ops tries few = omega (arith, few, with_more (inverse o former) ops)
owed_done true o (Value v) ops tries few = few
owed_done true o Absent ops tries few = few
owed_done true o Duplicate ops tries few = few
owed_done true o Missing ops tries few = few
owed_done true o NoRoom ops tries few = few
owed_done true o Old ops tries few = few
owed_done false o (Value v) ops tries few = few
owed_done false o Absent ops tries few = few
owed_done false o Duplicate ops tries few = few
owed_done false o Missing ops tries few = few
owed_done false o NoRoom ops tries few = few
owed_done false o Old ops tries few = few

tries_few_done : (b : Bool) (said : Said) (tries : ℕ) → tries ≤ 4 → tries_done b said tries ≤ 4
tries_few_done true (Done former) tries few = omega arith
tries_few_done true (Value v) tries few = few
tries_few_done true Absent tries few = few
tries_few_done true Duplicate tries few = few
tries_few_done true Missing tries few = few
tries_few_done true NoRoom tries few = few
tries_few_done true Old tries few = few
tries_few_done false said tries few = few

told_length : (n : Bool) (said : Said) (answers : List Said) → length (cond n answers (answers ++ said ∷ [])) + one_if n ≡ length answers + 1
told_length true said answers = omega arith
told_length false said answers = omega (arith, length-append answers (said ∷ []))

or_none : (x : Bool) → (x || false) ≡ x
or_none true = refl
or_none false = refl

asks_after : (b : Bool) (said : Said) (answers : List Said) (full : Bool) → (b ≡ false → full ≡ false)
    → length (told_to b said answers) + one_if (full || found_full b said) ≡ length answers + one_unless b + one_if full
asks_after true said answers full own = rw (or_none full) (omega arith)
asks_after false said answers full own = rw (own refl) (omega (arith, told_length (is_no_room said) said answers))

fit_told : (q : Checked) (args : List ℕ) (b : Bool) (o : Op) (said : Said) (answers : List Said)
    → Fitting q args answers → (b ≡ false → reached_of (stop_at q args answers) ≡ Asks o) → fits o said ≡ true
    → Fitting q args (told_to b said answers)
fit_told q args true o said answers fit asks f = fit
fit_told q args false o said answers fit asks f = by_test (is_no_room said) refl
  where
    by_test : (n : Bool) → is_no_room said ≡ n → Fitting q args (cond n answers (answers ++ said ∷ []))
    by_test true e = fit
    by_test false e = fitting_snoc q args answers said o fit (asks refl) f e

pub reached_at : (ps : List Checked) (s : Standing) (q : Checked) (at : Reached) → slice_get ps s.call.proc ≡ Some q
    → reached ps s ≡ at → reached_of (stop_at q s.call.args s.answers) ≡ at
reached_at ps s q at loaded is = ap (λ (x : Option Checked). reached_by x s.call.args s.answers) (sym loaded) ∙ is

-- the standing that was answered, where what it waits for is given
abbrev answered_to : Option Sent → Said → Standing → Standing
answered_to r said s =
    record {
      call = s.call;
      answers = answers_after r said s.answers;
      sent = None;
      full = full_after r said s.full;
      undo
          = undo_after r said s.undo;
      tries = tries_after r said s.tries;
      used = s.used;
      last = s.last;
    }

pub sound_answered : (ps : List Checked) (s : Standing) (r : Sent) (said : Said) → s.sent ≡ Some r
    → fits r.op said ≡ true → Sound ps s → Sound ps (answered said s)
sound_answered ps s r said waits f old = subst (λ (x : Option Sent). Sound ps (answered_to x said s)) (sym waits) it
  where
    own_one : one_own s.sent ≡ one_unless r.undoing
    own_one = ap one_own waits

    not_full : r.undoing ≡ false → s.full ≡ false
    not_full u = (old.own r waits u).0

    asks : asks_of (answered_to (Some r) said s) ≡ asks_of s
    asks = (let e = asks_after r.undoing said s.answers s.full not_full in omega (arith, e, own_one))

    it : Sound ps (answered_to (Some r) said s)
    it = record {
      q = old.q;
      loaded = old.loaded;
      takes = old.takes;
      fit = fit_told old.q s.call.args r.undoing r.op said s.answers old.fit (λ u. reached_at ps s old.q (Asks r.op) old.loaded (old.own r waits u).1) f;
      own = λ x e u. absurd cc;
      undoes = λ x e u. absurd cc;
      within = λ x e. absurd cc;
      undo_within = covered_done (locks_of (decls ps) s.call) r.undoing r.op said s.undo (old.within r waits) old.undo_within;
      few = omega (arith, asks, old.few);
      spent = omega (arith, asks, old.spent, own_one, spent_done r.undoing r.op said s.undo s.tries old.tries_few (old.undoes r waits));
      tries_few = tries_few_done r.undoing said s.tries old.tries_few;
      tries_owed = owed_done r.undoing r.op said s.undo s.tries old.tries_owed;
      writes = omega (arith, asks, old.writes, own_one, grown_done r.undoing r.op said s.undo);
    }

idle_own : (s : Standing) → s.sent ≡ None → one_own s.sent ≡ 0
idle_own s e = ap one_own e

first_some : (ops : List Op) (o : Op) → first_undo ops ≡ Some o → 0 < length ops
first_some [] o e = absurd cc
first_some (x ∷ ops) o e = omega arith

first_covered : (w : Wanted) (ops : List Op) (o : Op) → first_undo ops ≡ Some o → AllCovered w ops → covers w o
first_covered w [] o e all = absurd cc
first_covered w (x ∷ ops) o e all = (let same : x ≡ o = cc in subst (covers w) same all.0)

-- where it may ask, one of its numbers is left
pub ask_leaves : (ps : List Checked) (s : Standing) (o : Op) → AllGood ps → Sound ps s → s.sent ≡ None
    → s.full ≡ false → reached ps s ≡ Asks o
    → (asks_of s < calls ps s.call.proc) × (s.used < 5 * calls ps s.call.proc)
ask_leaves ps s o good old idle room asks =
    let few = asks_few ps s.call old.q s.answers o old.loaded (good s.call.proc old.q old.loaded) old.takes old.fit asks in
    let none = idle_own s idle in
    let empty : one_if s.full ≡ 0 = ap one_if room in
    (omega (arith, few, none, empty), omega (arith, few, none, empty, old.spent, old.tries_few))

-- and where it may undo
pub undo_leaves : (ps : List Checked) (s : Standing) (o : Op) → Sound ps s → s.sent ≡ None
    → first_undo s.undo ≡ Some o → s.tries < 4 → s.used < 5 * calls ps s.call.proc
undo_leaves ps s o old idle top few = omega (arith, old.spent, old.few, few, first_some s.undo o top)

pub standing_sound : (ps : List Checked) → AllGood ps → (h : List Event) → Legal ps h → (t : ℕ) (s : Standing) → standing h t ≡ Some s → Sound ps s
standing_sound ps good =
    each_standing (Sound ps) ps
    (λ h t call a. record {
      q = a.q;
      loaded = a.loaded;
      takes = a.takes;
      fit = fitting_none a.q call.args;
      own = λ r e u. absurd cc;
      undoes = λ r e u. absurd cc;
      within = λ r e. absurd cc;
      undo_within = tt;
      few = omega arith;
      spent = omega arith;
      tries_few = omega arith;
      tries_owed = omega arith;
      writes = omega arith;
    })
    (λ h t n o a old.
    let covered = asks_covered ps a.s.call old.q a.s.answers o old.loaded (good a.s.call.proc old.q old.loaded) old.takes old.fit a.asks in
    let left = ask_leaves ps a.s o good old a.idle a.not_full a.asks in
    let none = idle_own a.s a.idle in
    record {
      q = old.q;
      loaded = old.loaded;
      takes = old.takes;
      fit = old.fit;
      own = λ r e u. (a.not_full, (let same : o ≡ r.op = ap (λ (x : Sent). x.op) (some_same _ r e) in a.asks ∙ ap (λ (x : Op). Asks x) same));
      undoes = λ r e u. absurd (let bad : false ≡ true = ap (λ (x : Sent). x.undoing) (some_same _ r e) ∙ u in cc);
      within = λ r e. subst (covers (locks_of (decls ps) a.s.call)) (ap (λ (x : Sent). x.op) (some_same _ r e)) covered;
      undo_within = old.undo_within;
      few = omega (arith, left.0, none);
      spent = omega (arith, old.spent, none);
      tries_few = old.tries_few;
      tries_owed = old.tries_owed;
      writes = omega (arith, old.writes, none);
    })
    (λ h t n said a old. sound_answered ps a.s a.r said a.waits a.fit old)
    (λ h t n o a old.
    let none = idle_own a.s a.idle in
    let tries = a.few in
    record {
      q = old.q;
      loaded = old.loaded;
      takes = old.takes;
      fit = old.fit;
      own = λ r e u. absurd (let bad : true ≡ false = ap (λ (x : Sent). x.undoing) (some_same _ r e) ∙ u in cc);
      undoes = λ r e u. first_some a.s.undo o a.top;
      within = λ r e. subst (covers (locks_of (decls ps) a.s.call)) (ap (λ (x : Sent). x.op) (some_same _ r e))
          (first_covered (locks_of (decls ps) a.s.call) a.s.undo o a.top old.undo_within);
      undo_within = old.undo_within;
      few = omega (arith, old.few, none);
      spent = omega (arith, old.spent, none);
      tries_few = omega (arith, tries);
      tries_owed = omega (arith, tries, first_some a.s.undo o a.top);
      writes = omega (arith, old.writes, none);
    })
