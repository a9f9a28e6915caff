-- A cut keeps what every world keeps: behind it nothing was logged since its log began.
use Rattle.std.proofs.Common.{◌≡◌, ℕ, ◌+◌, ◌≤◌, List, Some, arith, sym, ◌∙◌, subst, inl, inr}
use Rattle.std.specs.Prelude.{slice_get}
use Rattle.std.proofs.lemmas.Bool.{cases_lt}
use Rattle.access_slots.specs.declared.op.Wire.{Wire}
use Rattle.access_slots.specs.declared.op.Reply.{Reply}
use Rattle.access_slots.specs.declared.op.News.{News}
use Rattle.tc_log.specs.declared.event.Event.{Event}
use Rattle.history.specs.Flight.{open_op, given, low_water}
use Rattle.history.specs.Anew.{begun, anew}
use Rattle.history.proofs.Laws.{computed_is}
use Rattle.data_component.specs.Store.{Store, heard}
use Rattle.transactions.specs.InFlight.{site_at}
use Rattle.transactions.specs.Legal.{Legal}
use Rattle.serial.specs.Serial.{done}
use Rattle.serial.specs.Lists.{logged}
use Rattle.serial.specs.Joining.Sites.{CopyOk, ReplyOk, NewsOk}
use Rattle.serial.proofs.NumberLemmas.{logged_below}
use Rattle.tc_core.specs.Checkpointing.{MayCheckpoint, checkpointed as cut_core}
use Rattle.tc_world.specs.Whole.{Whole}
use Rattle.tc_world.specs.Cutting.{kept_at, kept_marks, AreForgotten}
use Rattle.tc_world.specs.Steps.{Cuts}
use Rattle.tc_world.specs.declared.step.Outcome.{Outcome}
use Rattle.tc_world.specs.Joining.Listed.{IsListed, ArePast, wires_since, replies_since}
use Rattle.tc_world.proofs.Bases.{begun_low}
use Rattle.tc_world.proofs.Passing.{above_in, above_from}
use Rattle.tc_world.proofs.ComingBack.{all_at}
use Rattle.tc_world.specs.Marks.{HasRowsAlone}
use Rattle.tc_world.proofs.JustBegun.{AreEarlier, HasNothing, begun_listed}
use Rattle.tc_world.proofs.CutLemmas.{up_all, each_kept, heard_low, forgotten_to, was_kept, begun_behind, anew_just}

module _ (w : Whole) (ds : List Store) (legal : Legal w.core.procs w.core.events) (may : MayCheckpoint w.core (kept_marks w))
    (forgotten : AreForgotten (low_water w.core.events) w.core.sites w.dcs ds) (s : IsListed w) where
  abbrev h : List Event
  h = w.core.events

  abbrev low : ℕ
  low = low_water w.core.events

  abbrev cut : Whole
  cut = record w { core = cut_core w.core; dcs = ds }

  begun_few : begun h ≤ given h
  begun_few = (let up = begun_low w.core.procs h legal in let few = (computed_is h).all.given_out in omega (arith, up, few))

  -- what was sent tells of nothing behind the last number
  wire_few : (k : ℕ) (x : Wire) → slice_get w.copies k ≡ Some x → (x.number ≤ given h) × (x.low_water ≤ given h)
  wire_few k x at = elim (cases_lt (begun h) x.number) [
    | inl up ↦
        let here = above_in (λ (z : Wire). z.number) (begun h) w.copies k x at up in
        let y = all_at (CopyOk s.base (logged h) (open_op h) (done h) (given h) w.core.sites w.dcs s.ok.v) (wires_since w) here.0 x here.1 s.ok.copies in
        (logged_below w.core.procs h legal x.number x.op y.logs, y.over.given_out)
    | inr old ↦ (let mark = s.past k x at old in (omega (arith, old, begun_few), omega (arith, mark, begun_few)))
  ]

  reply_few : (k : ℕ) (x : Reply) → slice_get w.replies k ≡ Some x → x.number ≤ given h
  reply_few k x at = elim (cases_lt (begun h) x.number) [
    | inl up ↦
        let here = above_in (λ (z : Reply). z.number) (begun h) w.replies k x at up in
        let y = all_at (ReplyOk (logged h) w.core.sites w.dcs s.ok.v) (replies_since w) here.0 x here.1 s.ok.replies in
        logged_below w.core.procs h legal x.number y.o y.logs
    | inr old ↦ omega (arith, old, begun_few)
  ]

  -- each keeps just the last number
  pub kept_mark : (d : ℕ) (x : Store) → slice_get w.dcs d ≡ Some x → (heard x (site_at w.core.sites d).incarnation low).mark ≡ given h
  kept_mark d x at =
      let least : given h ≤ (kept_at low w.core.sites (0 + d) x).saved_mark = each_kept (given h) low w.core.sites 0 w.dcs may.kept_all d x at in
      let place : 0 + d ≡ d = omega arith in
      let least' : given h ≤ (heard x (site_at w.core.sites d).incarnation low).mark = subst
      (λ (i : ℕ). given h ≤ (kept_at low w.core.sites i x).saved_mark) place least in
      let few : x.mark ≤ given h = (s.ok.stores d x at).mark_over.given_out in
      let most = heard_low x (site_at w.core.sites d).incarnation low (given h) few (computed_is h).all.given_out in
      omega (arith, least', most)

  alone : (d : ℕ) (t : Store) → slice_get ds d ≡ Some t → HasRowsAlone (given h) t
  alone d t at =
      let is = was_kept low w.core.sites w.dcs ds d t forgotten at in
      let to = forgotten_to low (site_at w.core.sites d).incarnation is.s t is.forgotten in
      let mark = kept_mark d is.s is.at in
      record { base_mark = to.base_mark ∙ mark; list = to.list; saved = to.saved; mark = to.mark_is ∙ mark; saved_mark = to.saved_mark ∙ mark }

  early : (k : ℕ) (x : ℕ × News) → slice_get w.news k ≡ Some x → AreEarlier (given h) ds x
  early k x at =
      let y = all_at (NewsOk s.base (logged h) (open_op h) (done h) (given h) w.core.sites w.dcs) w.news k x at s.ok.news in
      let is = forgotten.each x.0 y.s y.at in
      let same = (forgotten_to low (site_at w.core.sites x.0).incarnation y.s is.t is.forgotten).incarnation in
      let made = y.made in
      record { s = is.t; at = is.at; mark = y.over.given_out; made = omega (arith, made, same) }

  nothing : HasNothing cut (given h)
  nothing = record {
    wires = λ k x at.
        let is = above_from (λ (z : Wire). z.number) (begun (anew h)) w.copies k x at in
        let up = is.above in
        let few = (wire_few is.place x is.at).0 in
        let same = begun_behind h in
        omega (arith, up, few, same);
    replies = λ k x at.
        let is = above_from (λ (z : Reply). z.number) (begun (anew h)) w.replies k x at in
        let up = is.above in
        let few = reply_few is.place x is.at in
        let same = begun_behind h in
        omega (arith, up, few, same);
    news = early;
    stores = alone;
    up = λ d. up_all w.core.sites d may.up;
  }

  past : ArePast (begun (anew h)) w.copies
  past k x at old = (let few = (wire_few k x at).1 in let same = begun_behind h in omega (arith, few, same))

  pub cut_listed : Legal w.core.procs (anew h) → IsListed cut
  cut_listed now = begun_listed cut (given h) nothing (begun_behind h) (anew_just w.core.procs h now) past

pub cuts_listed : (w v : Whole) (o : Outcome) → Legal w.core.procs w.core.events → Legal v.core.procs v.core.events → Cuts w o v → IsListed w → IsListed v
cuts_listed w v o legal now is s =
    subst IsListed (sym is.next)
    (cut_listed w v.dcs legal is.may is.forgotten s (subst (λ (x : Whole). Legal x.core.procs x.core.events) is.next now))
