-- Whatever those before it still do, the world of the one of now has lived.
use Rattle.std.proofs.Common.{◌≡◌, ℕ, true, false, List, [], ◌∷◌, ◌++◌, refl, sym, ◌∙◌, ap, subst}
use Rattle.std.proofs.lemmas.List.{append_assoc}
use Rattle.std.specs.List.{All}
use Rattle.access_slots.specs.declared.op.Wire.{Wire}
use Rattle.access_slots.specs.declared.op.Reply.{Reply}
use Rattle.access_slots.specs.declared.op.News.{News}
use Rattle.tc_log.specs.declared.event.Event.{Event}
use Rattle.history.specs.Flight.{low_water}
use Rattle.history.specs.Places.{Begins}
use Rattle.tc_core.specs.declared.recovery.SiteNote.{SiteNote}
use Rattle.tc_world.specs.Whole.{Whole}
use Rattle.tc_world.specs.Recovery.{IsWrittenFor, AreNoted, IsWritten, come_back}
use Rattle.tc_world.specs.Lives.{left_with, Lives, Takes, Loses, HasLived}
use Rattle.tc_world.specs.Ahead.{Written, Tells, Grows, Turn, Goes as Acts, Killed, WritesAhead}
use Rattle.tc_world.specs.declared.step.Step.{Step}
use Rattle.tc_world.specs.declared.step.Step.TheVariants as step
use Rattle.tc_world.proofs.AheadLemmas.{ahead_lived, ahead_told}
use Rattle.tc_world.proofs.LivingLemmas.{crash_lived}
use Rattle.tc_world.proofs.WrittenLemmas.{Rest, rest_of, again_written}
use Rattle.engine_recovery.specs.Engine.{is_in_memory, TakesInMemory}
use Rattle.engine_recovery.proofs.MemoryLemmas.{InMemory, in_memory, step_same, step_rest}
use Rattle.succession.specs.Reigns.{GoesOn, Reign, Rules, TakesOver, Reigns, is_cut, NoneCutIn, NoneCut}

-- what is written stays as it is
stays : (x : Step) (p : Written) (h : List Event) → is_in_memory x ≡ true → Begins p.events h → Grows x p.events p.events h
stays (step.Admit call) p h own begins = (record { later = []; is = refl }, begins)
stays (step.Ask t) p h own begins = (record { later = []; is = refl }, begins)
stays (step.Undo t) p h own begins = (record { later = []; is = refl }, begins)
stays (step.End t) p h own begins = (record { later = []; is = refl }, begins)
stays (step.Resend t) p h own begins = (record { later = []; is = refl }, begins)
stays (step.Take i) p h own begins = (record { later = []; is = refl }, begins)
stays (step.Tell i) p h own begins = (record { later = []; is = refl }, begins)
stays (step.Redo d) p h own begins = (record { later = []; is = refl }, begins)
stays (step.Perform i) p h own begins = absurd (let bad : false ≡ true = own in cc)
stays (step.Restart d) p h own begins = absurd (let bad : false ≡ true = own in cc)
stays (step.Forge x) p h own begins = absurd (let bad : false ≡ true = own in cc)
stays (step.Checkpoint d) p h own begins = absurd (let bad : false ≡ true = own in cc)
stays (step.Crash n) p h own begins = absurd (let bad : false ≡ true = own in cc)
stays step.Cut p h own begins = absurd (let bad : false ≡ true = own in cc)

-- what holds while one that was superseded goes on: it might come back, and as it would have come back before, but for wires
pub record Late (p : Written) (w v : Whole) : Type 0 where
  pub lived : HasLived v
  pub told : IsWritten p.events p.notes v
  pub replies : v.replies ≡ w.replies
  pub news : v.news ≡ w.news
  pub same : (h : List Event) (notes : List SiteNote) → come_back h notes v ≡ left_with v.copies w.replies w.news (come_back h notes w)

not_yet : (p : Written) (w : Whole) → HasLived w → IsWritten p.events p.notes w → Late p w w
not_yet p w lived told = record { lived = lived; told = told; replies = refl; news = refl; same = λ h notes. refl }

-- one turn
one_turn : (x : Step) (xs : List Wire) (p : Written) (w mid : Whole) → HasLived w → IsWritten p.events p.notes w → is_in_memory x ≡ true
    → Lives (Takes x ∷ Loses xs w.replies w.news ∷ []) w mid → All (IsWrittenFor p.events) mid.copies → AreNoted (low_water p.events) mid p.notes
    → Late p w mid
one_turn x xs p w mid lived told own (o, u, goes, honest, legal, good, (wires, replies, news, same)) ready noted = record {
  lived = ahead_lived (Acts x p xs w.replies w.news ∷ []) p p w mid lived told writes;
  told = ahead_told (Acts x p xs w.replies w.news ∷ []) p p w mid lived told writes;
  replies = ap (λ (z : Whole). z.replies) same;
  news = ap (λ (z : Whole). z.news) same;
  same = back;
}
  where
    after : Rest p.events u
    after = step_rest p.events w u x o own told.copies goes (rest_of p.events p.notes w told)

    begins : Begins p.events mid.core.events
    begins = subst (λ (z : Whole). Begins p.events z.core.events) (sym same) after.begins

    writes : WritesAhead (Acts x p xs w.replies w.news ∷ []) p w p mid
    writes = (
      mid,
      (o, u, goes, honest, legal, good, (wires, replies, news, same)),
      record { log = stays x p mid.core.events own begins; wires = ready; notes = noted },
      (refl, refl),
    )

    back : (h : List Event) (notes : List SiteNote) → come_back h notes mid ≡ left_with mid.copies w.replies w.news (come_back h notes w)
    back h notes = subst (λ (z : Whole). come_back h notes z ≡ left_with z.copies w.replies w.news (come_back h notes w)) (sym same)
        (ap (left_with xs w.replies w.news) (step_same w u x o own goes h notes))

behind : (p : Written) (w mid v : Whole) → Late p w mid → Late p mid v → Late p w v
behind p w mid v before after = record {
  lived = after.lived;
  told = after.told;
  replies = after.replies ∙ before.replies;
  news = after.news ∙ before.news;
  same = λ h notes.
      after.same h notes
      ∙ (ap (λ (rs : List Reply). left_with v.copies rs mid.news (come_back h notes mid)) before.replies
      ∙ (ap (λ (ns : List (ℕ × News)). left_with v.copies w.replies ns (come_back h notes mid)) before.news
      ∙ ap (left_with v.copies w.replies w.news) (before.same h notes)));
}

pub goes_on : (turns : List (Step × List Wire)) (p : Written) (w v : Whole) → HasLived w → IsWritten p.events p.notes w → GoesOn turns p w v → Late p w v
goes_on [] p w v lived told is = subst (Late p w) (sym is) (not_yet p w lived told)
goes_on (turn ∷ turns) p w v lived told (own, mid, lives, ready, noted, rest) =
    let one = one_turn turn.0 turn.1 p w mid lived told own lives ready noted in
    behind p w mid v one (goes_on turns p mid v one.lived one.told rest)

pub thinks : (steps : List Step) (p : Written) (w late last : Whole) → Late p w late → TakesInMemory steps late last → InMemory p.events late last
thinks steps p w late last k taken = in_memory p.events steps late last k.lived k.told.copies (rest_of p.events p.notes late k.told) taken

-- the world in which another has taken over
pub over_lived : (steps : List Step) (p : Written) (w late last : Whole) → Late p w late → TakesInMemory steps late last
    → HasLived (come_back p.events p.notes last)
over_lived steps p w late last k taken =
    subst HasLived (sym ((thinks steps p w late last k taken).same p.events p.notes)) (crash_lived late p.events p.notes k.told k.lived)

pub over_told : (steps : List Step) (p : Written) (w late last : Whole) → Late p w late → TakesInMemory steps late last
    → Tells p (come_back p.events p.notes last)
over_told steps p w late last k taken =
    subst (Tells p) (sym ((thinks steps p w late last k taken).same p.events p.notes)) (again_written late p.events p.notes k.told)

-- ---- however often another takes over

pub record Stands (q : Written) (v : Whole) : Type 0 where
  pub lived : HasLived v
  pub told : Tells q v

pub reigns_stand : (reigns : List Reign) (p q : Written) (w v : Whole) → HasLived w → Tells p w → Reigns reigns p w q v → Stands q v
reigns_stand [] p q w v lived told (written, is) =
    subst (λ (z : Whole). Stands q z) (sym is) (subst (λ (r : Written). Stands r w) (sym written) (record { lived = lived; told = told }))
reigns_stand (Rules turns ∷ reigns) p q w v lived told (m, mid, writes, rest) =
    reigns_stand reigns m q mid v (ahead_lived turns p m w mid lived told writes) (ahead_told turns p m w mid lived told writes) rest
reigns_stand (TakesOver turns steps ∷ reigns) p q w v lived told (late, last, on, taken, rest) =
    let k = goes_on turns p w late lived told on in
    reigns_stand reigns p q (come_back p.events p.notes last) v (over_lived steps p w late last k taken) (over_told steps p w late last k taken) rest

-- ---- what was written stays, where the log isn't cut

no_more : (h : List Event) → Begins h h
no_more h = record { later = []; is = refl }

begins_on : (a b c : List Event) → Begins a b → Begins b c → Begins a c
begins_on a b c ab bc = record {
  later = bc.later ++ ab.later;
  is = bc.is ∙ (ap (λ (h : List Event). bc.later ++ h) ab.is ∙ sym (append_assoc bc.later ab.later a));
}

grew : (x : Step) (first more h : List Event) → is_cut x ≡ false → Grows x first more h → Begins first more
grew step.Cut first more h none grows = absurd (let bad : true ≡ false = none in cc)
grew other first more h none grows = grows.0

turns_keep : (turns : List Turn) (p q : Written) (w v : Whole) → NoneCutIn turns → WritesAhead turns p w q v → Begins p.events q.events
turns_keep [] p q w v none (written, is) = subst (λ (r : Written). Begins p.events r.events) (sym written) (no_more p.events)
turns_keep (Acts x next xs rs ns ∷ turns) p q w v none (mid, lives, ahead, rest) =
    begins_on p.events next.events q.events (grew x p.events next.events mid.core.events none.0 ahead.log) (turns_keep turns next q mid v none.1 rest)
turns_keep (Killed ∷ turns) p q w v none rest = turns_keep turns p q (come_back p.events p.notes w) v none rest

pub stays_written : (reigns : List Reign) (p q : Written) (w v : Whole) → NoneCut reigns → Reigns reigns p w q v → Begins p.events q.events
stays_written [] p q w v none (written, is) = subst (λ (r : Written). Begins p.events r.events) (sym written) (no_more p.events)
stays_written (Rules turns ∷ reigns) p q w v none (m, mid, writes, rest) =
    begins_on p.events m.events q.events (turns_keep turns p m w mid none.0 writes) (stays_written reigns m q mid v none.1 rest)
stays_written (TakesOver turns steps ∷ reigns) p q w v none (late, last, on, taken, rest) =
    stays_written reigns p q (come_back p.events p.notes last) v none rest
