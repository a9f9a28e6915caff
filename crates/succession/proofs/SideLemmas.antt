-- Whatever former ones carry, and whenever, the world of the one of now is as if they had carried it when they were superseded.
use Rattle.std.proofs.Common.{◌≡◌, ◌≢◌, ℕ, true, false, List, [], ◌∷◌, ◌++◌, refl, sym, ◌∙◌, ap, subst}
use Rattle.transactions.proofs.StandingLemmas.{none_some}
use Rattle.access_slots.specs.declared.op.Wire.{Wire}
use Rattle.access_slots.specs.declared.op.Reply.{Reply}
use Rattle.access_slots.specs.declared.op.News.{News}
use Rattle.tc_log.specs.declared.event.Event.{Event}
use Rattle.transactions.specs.Legal.{Legal}
use Rattle.transactions.specs.Reached.{AllGood}
use Rattle.tc_core.specs.Core.{Core}
use Rattle.tc_core.specs.declared.recovery.SiteNote.{SiteNote}
use Rattle.tc_world.specs.Whole.{Whole}
use Rattle.tc_world.specs.Steps.{Steps, with_copy}
use Rattle.tc_world.specs.OneAtATime.{is_forge}
use Rattle.tc_world.specs.Recovery.{IsWritten, come_back}
use Rattle.tc_world.specs.Lives.{AreAmong, left_with, Takes, Loses as Lost, Crashes}
use Rattle.tc_world.specs.Ahead.{Written}
use Rattle.tc_world.specs.declared.step.Step.{Step}
use Rattle.tc_world.specs.declared.step.Step.TheVariants as step
use Rattle.tc_world.specs.declared.step.Outcome.{Outcome}
use Rattle.tc_world.proofs.LivingLemmas.{Sound, becomes_sound}
use Rattle.engine_recovery.specs.Engine.{is_in_memory}
use Rattle.succession.specs.More.{with_more, StepsWith}
use Rattle.succession.specs.Reigns.{GoesOn}
use Rattle.succession.specs.Redoing.{RedoesOn}
use Rattle.succession.specs.Side.{Happening, Does, Loses, Arrives, Redoes, TakesOver, Happens}
use Rattle.engine_recovery.proofs.MemoryLemmas.{step_same}
use Rattle.succession.proofs.MoreLemmas.{either, at_left, at_right, all_among, turned, steps_with}
use Rattle.succession.proofs.RedoingLemmas.{redone_on}

-- ---- lists

-- each of both is one of those
pub both_among : {X : Type 0} (xs ys zs : List X) → AreAmong xs zs → AreAmong ys zs → AreAmong (xs ++ ys) zs
both_among xs ys zs left right k x at = either xs ys k x at (λ j there. left j x there) (λ j there. right j x there)

pub left_among : {X : Type 0} (xs ys : List X) → AreAmong xs (xs ++ ys)
left_among xs ys k x at = (k, at_left xs ys k x at)

right_among : {X : Type 0} (xs ys : List X) → AreAmong ys (xs ++ ys)
right_among xs ys k x at = at_right xs ys k x at

among_on : {X : Type 0} (xs ys zs : List X) → AreAmong xs ys → AreAmong ys zs → AreAmong xs zs
among_on xs ys zs one two k x at = (let there = one k x at in two there.0 x there.1)

-- ---- what one move leaves

lost : (w : Whole) (xs : List Wire) (rs : List Reply) (ns : List (ℕ × News)) → AreAmong xs w.copies → AreAmong rs w.replies → AreAmong ns w.news
    → Sound w → Sound (left_with xs rs ns w)
lost w xs rs ns wires replies news s =
    becomes_sound w (left_with xs rs ns w) (record { moves = Lost xs rs ns ∷ []; lives = (wires, replies, news, refl) }) s

-- the same wires are there, or fewer
fewer : (w : Whole) (xs ys : List Wire) → AreAmong xs ys → Sound (record w { copies = ys }) → Sound (record w { copies = xs })
fewer w xs ys among s = lost (record w { copies = ys }) xs w.replies w.news among (all_among w.replies) (all_among w.news) s

-- a step, beside wires that former ones may still carry
steps_beside : (late : List Wire) (w v : Whole) (x : Step) (o : Outcome) → Steps w x o v → is_forge x ≡ false → ((events : ℕ) → x ≢ step.Crash events)
    → Legal v.core.procs v.core.events → AllGood v.core.procs → Sound (with_more late w) → Sound (with_more late v)
steps_beside late w v x o goes honest never legal good s =
    subst Sound same (lost b.u (v.copies ++ late) v.replies v.news b.among
    (subst (AreAmong v.replies) (sym b.replies) (all_among v.replies)) (subst (AreAmong v.news) (sym b.news) (all_among v.news)) there)
  where
    b : StepsWith late w v x
    b = steps_with late w v x o never goes

    there : Sound b.u
    there = becomes_sound (with_more late w) b.u (record {
      moves = Takes x ∷ [];
      lives = (
        b.o,
        b.u,
        b.goes,
        honest,
        subst (λ (c : Core). Legal c.procs c.events) (sym b.core) legal,
        subst (λ (c : Core). AllGood c.procs) (sym b.core) good,
        refl,
      );
    }) s

    same : left_with (v.copies ++ late) v.replies v.news b.u ≡ with_more late v
    same = ap (λ (c : Core). (let z : Whole = record { core = c; dcs = b.u.dcs; copies = v.copies ++ late; replies = v.replies; news = v.news } in z)) b.core
        ∙ ap (λ ds. (let z : Whole = record { core = v.core; dcs = ds; copies = v.copies ++ late; replies = v.replies; news = v.news } in z)) b.dcs

-- a step in memory is no crash
no_crash : (x : Step) → is_in_memory x ≡ true → (events : ℕ) → x ≢ step.Crash events
no_crash x own events is = (let bad : false ≡ true = sym (ap is_in_memory is) ∙ own in cc)

-- ---- one that is superseded goes on

pub record Last (w v : Whole) : Type 0 where
  pub replies : v.replies ≡ w.replies
  pub news : v.news ≡ w.news
  pub same : (h : List Event) (notes : List SiteNote) → come_back h notes v ≡ left_with v.copies w.replies w.news (come_back h notes w)

last_of : (turns : List (Step × List Wire)) (p : Written) (w v : Whole) → GoesOn turns p w v → Last w v
last_of [] p w v is = subst (Last w) (sym is) (record { replies = refl; news = refl; same = λ h notes. refl })
last_of (turn ∷ turns) p w v (own, mid, (o, u, goes, honest, legal, good, (wires, replies, news, same)), ready, noted, rest) =
    let after = last_of turns p mid v rest in
    let rs : mid.replies ≡ w.replies = ap (λ (z : Whole). z.replies) same in
    let ns : mid.news ≡ w.news = ap (λ (z : Whole). z.news) same in
    record {
      replies = after.replies ∙ rs;
      news = after.news ∙ ns;
      same = λ h notes.
          after.same h notes
          ∙ (ap (λ (z : Whole). left_with v.copies z.replies z.news (come_back h notes z)) same
          ∙ ap (left_with v.copies w.replies w.news) (step_same w u turn.0 o own goes h notes));
    }

goes_beside : (late : List Wire) (turns : List (Step × List Wire)) (p : Written) (w v : Whole) → GoesOn turns p w v → Sound (with_more late w)
    → Sound (with_more late v)
goes_beside late [] p w v is s = subst (λ (z : Whole). Sound (with_more late z)) (sym is) s
goes_beside late (turn ∷ turns) p w v (own, mid, (o, u, goes, honest, legal, good, (wires, replies, news, same)), ready, noted, rest) s =
    goes_beside late turns p mid v rest (subst (λ (z : Whole). Sound (with_more late z)) (sym same)
    (lost (with_more late u) (turn.1 ++ late) w.replies w.news
    (both_among turn.1 late (u.copies ++ late) (among_on turn.1 u.copies (u.copies ++ late) wires (left_among u.copies late)) (right_among u.copies late))
    replies news
    (steps_beside late w u turn.0 o goes honest (no_crash turn.0 own) legal good s)))

-- another takes over: from then on this one's wires are among those that may come
over_beside : (late : List Wire) (turns : List (Step × List Wire)) (p : Written) (w last : Whole) → GoesOn turns p w last → AreAmong w.copies last.copies
    → IsWritten p.events p.notes (with_more late last) → Sound (with_more late w) → Sound (with_more (last.copies ++ late) (come_back p.events p.notes w))
over_beside late turns p w last on kept written s =
    fewer (come_back p.events p.notes w) (w.copies ++ (last.copies ++ late)) (last.copies ++ late)
    (both_among w.copies (last.copies ++ late) (last.copies ++ late)
    (among_on w.copies last.copies (last.copies ++ late) kept (left_among last.copies late)) (all_among (last.copies ++ late)))
    (subst Sound here back)
  where
    it : Last w last
    it = last_of turns p w last on

    back : Sound (come_back p.events p.notes (with_more late last))
    back = becomes_sound (with_more late last) (come_back p.events p.notes (with_more late last))
        (record { moves = Crashes p.events p.notes ∷ []; lives = (written, refl) }) (goes_beside late turns p w last on s)

    here : come_back p.events p.notes (with_more late last) ≡ record (come_back p.events p.notes w) { copies = last.copies ++ late }
    here = ap (λ (z : Whole). record z { copies = last.copies ++ late }) (it.same p.events p.notes)

-- a redo that goes on goes on beside others
redoes_beside : (late : List Wire) (w : Whole) (x : Wire) → RedoesOn w x → RedoesOn (with_more late w) x
redoes_beside late w x e = record {
  before = e.before;
  place = e.place;
  carried = at_left w.copies late e.place e.before e.carried;
  since = e.since;
  again = e.again;
  answer = e.answer;
  came = e.came;
  replied = e.replied;
  of_it = e.of_it;
  said_by = e.said_by;
  new = e.new;
  redo = e.redo;
  dc = e.dc;
  incarnation = e.incarnation;
  low = e.low;
  logs = e.logs;
  said = e.said;
  was = e.was;
  did = e.did;
  next = e.next;
}

-- ---- one after another

pub happens_sound : (all : List Happening) (late late' : List Wire) (w v : Whole) → Sound (with_more late w) → Happens all late w late' v
    → Sound (with_more late' v)
happens_sound [] late late' w v s (wires, is) =
    subst (λ (z : Whole). Sound (with_more late' z)) (sym is) (subst (λ (xs : List Wire). Sound (with_more xs w)) (sym wires) s)
happens_sound (Does x ∷ all) late late' w v s (o, mid, goes, honest, never, legal, good, rest) =
    happens_sound all late late' mid v (steps_beside late w mid x o goes honest never legal good s) rest
happens_sound (Loses xs rs ns ∷ all) late late' w v s (wires, replies, news, rest) =
    happens_sound all late late' (left_with xs rs ns w) v
    (lost (with_more late w) (xs ++ late) rs ns
    (both_among xs late (w.copies ++ late) (among_on xs w.copies (w.copies ++ late) wires (left_among w.copies late)) (right_among w.copies late))
    replies news s) rest
happens_sound (Arrives xs ∷ all) late late' w v s (wires, rest) =
    happens_sound all late late' (with_more xs w) v
    (fewer w ((w.copies ++ xs) ++ late) (w.copies ++ late)
    (both_among (w.copies ++ xs) late (w.copies ++ late)
    (both_among w.copies xs (w.copies ++ late) (left_among w.copies late) (among_on xs late (w.copies ++ late) wires (right_among w.copies late)))
    (right_among w.copies late)) s) rest
happens_sound (Redoes x ∷ all) late late' w v s (e, rest) =
    happens_sound all late late' (with_copy w x) v
    (fewer w ((w.copies ++ x ∷ []) ++ late) ((w.copies ++ late) ++ x ∷ []) (turned w.copies (x ∷ []) late)
    (redone_on (with_more late w) x s (redoes_beside late w x e))) rest
happens_sound (TakesOver p turns ∷ all) late late' w v s (last, on, kept, written, rest) =
    happens_sound all (last.copies ++ late) late' (come_back p.events p.notes w) v (over_beside late turns p w last on kept written s) rest

pub alone : (late : List Wire) (w : Whole) → Sound (with_more late w) → Sound w
alone late w s = fewer w w.copies (w.copies ++ late) (left_among w.copies late) s

pub nothing_among : {X : Type 0} (xs : List X) → AreAmong [] xs
nothing_among xs k x at = absurd (none_some _ x refl at)

pub none_more : (w : Whole) → Sound w → Sound (with_more [] w)
none_more w s = fewer w (w.copies ++ []) w.copies (both_among w.copies [] w.copies (all_among w.copies) (nothing_among w.copies)) s
