-- Whatever happens to a world, crashes among it, it stays one in which calls run one at a time.
use Rattle.std.proofs.Common.{◌≡◌, ℕ, false, List, [], ◌∷◌, ◌++◌, refl, sym, subst}
use Rattle.std.specs.List.{All}
use Rattle.access_slots.specs.declared.op.Wire.{Wire}
use Rattle.access_slots.specs.declared.op.Reply.{Reply}
use Rattle.access_slots.specs.declared.op.News.{News}
use Rattle.tc_log.specs.declared.event.Event.{Event}
use Rattle.history.specs.Places.{Begins}
use Rattle.data_component.specs.Store.{Store}
use Rattle.transactions.specs.Legal.{Legal}
use Rattle.transactions.specs.Reached.{AllGood}
use Rattle.access_slots.specs.declared.slot.Record.{Record}
use Rattle.serial.specs.Values.{Table}
use Rattle.serial.specs.Serial.{HonestFrom}
use Rattle.serial.specs.Audit.{base_of, IsAgreed}
use Rattle.serial.proofs.BackLemmas.{legal_first}
use Rattle.tc_core.specs.declared.recovery.SiteNote.{SiteNote}
use Rattle.tc_world.specs.Whole.{Whole}
use Rattle.tc_world.specs.Marks.{AreMarksLow, IsFresh}
use Rattle.tc_world.specs.Steps.{Steps}
use Rattle.tc_world.specs.OneAtATime.{is_forge, EachIsKnown, IsOneAtATime}
use Rattle.tc_world.specs.Recovery.{IsWritten, come_back, IsNew, StandFor, start_over}
use Rattle.tc_world.specs.Lives.{AreAmong, left_with, Move, Takes, Loses, Crashes, StartsOver, Lives, Becomes, HasLived}
use Rattle.tc_world.specs.Joining.Listed.{IsListed}
use Rattle.tc_world.specs.declared.step.Step.{Step}
use Rattle.tc_world.specs.declared.step.Outcome.{Outcome}
use Rattle.tc_world.proofs.Bases.{just_legal}
use Rattle.tc_world.proofs.Marks.{stay_low, fresh_low}
use Rattle.tc_world.proofs.JustBegun.{fresh_listed}
use Rattle.tc_world.proofs.Listed.{Known, stay_listed}
use Rattle.tc_world.proofs.OneByOne.{one_at_a_time, agrees}
use Rattle.tc_world.proofs.ComingBack.{come_back_legal, come_back_low, come_back_listed}
use Rattle.tc_world.proofs.Recovering.{lost_low, lost_listed, IsThere, new_listed, start_over_low, start_over_listed}

-- what each world on the way is
pub record Sound (w : Whole) : Type 0 where
  pub known : Known w.core
  pub low : AreMarksLow w
  pub listed : IsListed w

lives : (moves : List Move) (w v : Whole) → Sound w → Lives moves w v → Sound v
lives [] w v s is = subst Sound (sym is) s
lives (Takes x ∷ moves) w v s (o, mid, steps, honest, legal, good, rest) =
    let known : Known mid.core = record { legal = legal; good = good } in
    lives moves mid v (record {
      known = known;
      low = stay_low w mid x o s.known.legal legal steps s.low;
      listed = stay_listed w mid x o s.known known honest steps s.listed;
    }) rest
lives (Loses xs rs ns ∷ moves) w v s (wires, replies, news, rest) =
    lives moves (left_with xs rs ns w) v
    (record {
      known = record { legal = s.known.legal; good = s.known.good };
      low = lost_low w xs rs ns wires news s.low;
      listed = lost_listed w xs rs ns wires replies news s.listed;
    })
    rest
lives (Crashes first notes ∷ moves) w v s (written, rest) =
    lives moves (come_back first notes w) v
    (record {
      known = record { legal = come_back_legal w first notes s.known.legal written; good = s.known.good };
      low = come_back_low w first notes written;
      listed = come_back_listed w first notes s.known.good s.known.legal written s.listed;
    })
    rest
lives (StartsOver first dcs ∷ moves) w v s (begins, new, olds, rest) =
    let legal : Legal w.core.procs first = legal_first w.core.procs begins.later first (subst (Legal w.core.procs) begins.is s.known.legal) in
    lives moves (start_over first dcs w) v
    (record {
      known = record { legal = legal; good = s.known.good };
      low = start_over_low w first dcs legal new;
      listed = start_over_listed w first dcs s.known.good s.known.legal begins new olds s.listed;
    })
    rest

fresh_sound : (w : Whole) → IsFresh w → AllGood w.core.procs → Sound w
fresh_sound w fresh good = record {
  known = record { legal = just_legal w.core.procs w.core.events fresh.events; good = good };
  low = fresh_low w fresh;
  listed = fresh_listed w fresh;
}

pub becomes_sound : (w v : Whole) → Becomes w v → Sound w → Sound v
becomes_sound w v b s = lives b.moves w v s b.lives

sound : (w : Whole) → HasLived w → Sound w
sound w l = lives l.moves l.first w (fresh_sound l.first l.fresh l.good) l.lives

pub living_known : (w : Whole) → HasLived w → Known w.core
living_known w l = (sound w l).known

pub living_listed : (w : Whole) → HasLived w → IsListed w
living_listed w l = (sound w l).listed

pub living_legal : (w : Whole) → HasLived w → Legal w.core.procs w.core.events
living_legal w l = (sound w l).known.legal

pub living_low : (w : Whole) → HasLived w → AreMarksLow w
living_low w l = (sound w l).low

pub sound_serial : (w : Whole) → Sound w → IsOneAtATime w
sound_serial w s = one_at_a_time w s.known s.listed

pub sound_agreed : (w : Whole) → Sound w → EachIsKnown w → IsAgreed w.core.procs w.core.events w.dcs
sound_agreed w s each = agrees w s.known s.listed each

pub living_serial : (w : Whole) → HasLived w → IsOneAtATime w
living_serial w l = sound_serial w (sound w l)

pub living_agreed : (w : Whole) → HasLived w → EachIsKnown w → IsAgreed w.core.procs w.core.events w.dcs
living_agreed w l each = sound_agreed w (sound w l) each

-- ---- one move more

on : (moves more : List Move) (u w v : Whole) → Lives moves u w → Lives more w v → Lives (moves ++ more) u v
on [] more u w v is next = subst (λ (z : Whole). Lives more z v) is next
on (Takes x ∷ moves) more u w v (o, mid, steps, honest, legal, good, rest) next = (o, mid, steps, honest, legal, good, on moves more mid w v rest next)
on (Loses xs rs ns ∷ moves) more u w v (wires, replies, news, rest) next = (wires, replies, news, on moves more (left_with xs rs ns u) w v rest next)
on (Crashes first notes ∷ moves) more u w v (written, rest) next = (written, on moves more (come_back first notes u) w v rest next)
on (StartsOver first dcs ∷ moves) more u w v (begins, new, olds, rest) next = (begins, new, olds, on moves more (start_over first dcs u) w v rest next)

lived_on : (w v : Whole) (m : Move) → HasLived w → Lives (m ∷ []) w v → HasLived v
lived_on w v m l next = record {
  first = l.first;
  fresh = l.fresh;
  good = l.good;
  moves = l.moves ++ m ∷ [];
  lives = on l.moves (m ∷ []) l.first w v l.lives next;
}

pub fresh_lived : (w : Whole) → IsFresh w → AllGood w.core.procs → HasLived w
fresh_lived w fresh good = record { first = w; fresh = fresh; good = good; moves = []; lives = refl }

pub step_lived : (w v : Whole) (x : Step) (o : Outcome) → Known v.core → is_forge x ≡ false → Steps w x o v → HasLived w → HasLived v
step_lived w v x o known honest steps l = lived_on w v (Takes x) l (o, v, steps, honest, known.legal, known.good, refl)

pub loss_lived : (w : Whole) (xs : List Wire) (rs : List Reply) (ns : List (ℕ × News)) → AreAmong xs w.copies
    → AreAmong rs w.replies → AreAmong ns w.news → HasLived w → HasLived (left_with xs rs ns w)
loss_lived w xs rs ns wires replies news l = lived_on w (left_with xs rs ns w) (Loses xs rs ns) l (wires, replies, news, refl)

pub crash_lived : (w : Whole) (first : List Event) (notes : List SiteNote) → IsWritten first notes w → HasLived w → HasLived (come_back first notes w)
crash_lived w first notes written l = lived_on w (come_back first notes w) (Crashes first notes) l (written, refl)

pub over_lived : (w : Whole) (first : List Event) (dcs : List Store) → Begins first w.core.events
    → All (IsNew first) dcs → StandFor dcs w.dcs → HasLived w → HasLived (start_over first dcs w)
over_lived w first dcs begins new olds l = lived_on w (start_over first dcs w) (StartsOver first dcs) l (begins, new, olds, refl)

-- ---- from any world on

pub becomes_same : (w : Whole) → Becomes w w
becomes_same w = record { moves = []; lives = refl }

becomes_on : (start w v : Whole) (m : Move) → Becomes start w → Lives (m ∷ []) w v → Becomes start v
becomes_on start w v m b next = record { moves = b.moves ++ m ∷ []; lives = on b.moves (m ∷ []) start w v b.lives next }

pub step_becomes : (start w v : Whole) (x : Step) (o : Outcome) → Known v.core → is_forge x ≡ false → Steps w x o v → Becomes start w → Becomes start v
step_becomes start w v x o known honest steps b = becomes_on start w v (Takes x) b (o, v, steps, honest, known.legal, known.good, refl)

pub loss_becomes : (start w : Whole) (xs : List Wire) (rs : List Reply) (ns : List (ℕ × News)) → AreAmong xs w.copies
    → AreAmong rs w.replies → AreAmong ns w.news
    → Becomes start w → Becomes start (left_with xs rs ns w)
loss_becomes start w xs rs ns wires replies news b = becomes_on start w (left_with xs rs ns w) (Loses xs rs ns) b (wires, replies, news, refl)

pub becomes_lived : (w v : Whole) → Becomes w v → HasLived w → HasLived v
becomes_lived w v b l = record {
  first = l.first;
  fresh = l.fresh;
  good = l.good;
  moves = l.moves ++ b.moves;
  lives = on l.moves b.moves l.first w v l.lives b.lives;
}

-- marks stay low, whatever the answers are
lives_low : (moves : List Move) (w v : Whole) → Legal w.core.procs w.core.events → AreMarksLow w → Lives moves w v → AreMarksLow v
lives_low [] w v legal low is = subst AreMarksLow (sym is) low
lives_low (Takes x ∷ moves) w v legal low (o, mid, steps, honest, legal', good, rest) = lives_low moves mid v legal'
    (stay_low w mid x o legal legal' steps low) rest
lives_low (Loses xs rs ns ∷ moves) w v legal low (wires, replies, news, rest) = lives_low moves (left_with xs rs ns w) v
    legal (lost_low w xs rs ns wires news low) rest
lives_low (Crashes first notes ∷ moves) w v legal low (written, rest) =
    lives_low moves (come_back first notes w) v (come_back_legal w first notes legal written) (come_back_low w first notes written) rest
lives_low (StartsOver first dcs ∷ moves) w v legal low (begins, new, olds, rest) =
    let legal' : Legal w.core.procs first = legal_first w.core.procs begins.later first (subst (Legal w.core.procs) begins.is legal) in
    lives_low moves (start_over first dcs w) v legal' (start_over_low w first dcs legal' new) rest

pub becomes_low : (w v : Whole) → Becomes w v → Legal w.core.procs w.core.events → AreMarksLow w → AreMarksLow v
becomes_low w v b legal low = lives_low b.moves w v legal low b.lives

-- ---- a log alone, with new data components

pub new_sound : (w : Whole) (base : Table) (first : List Event) (dcs : List Store) → AllGood w.core.procs → Legal w.core.procs first → HonestFrom base first
    → ((r : Record) → base r ≡ base_of dcs r) → IsThere first dcs → All (IsNew first) dcs → Sound (start_over first dcs w)
new_sound w base first dcs good legal honest based answered new = record {
  known = record { legal = legal; good = good };
  low = start_over_low w first dcs legal new;
  listed = new_listed w base first dcs legal honest based answered new;
}
