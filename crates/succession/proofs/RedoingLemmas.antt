-- A former one's redo that goes on keeps what each world on the way is.
use Rattle.std.proofs.Common.{◌≡◌, ℕ, ◌+◌, ◌-◌, ◌<◌, ◌≤◌, true, false, List, Some, arith, refl, sym, ◌∙◌, ap, subst, inl, inr}
use Rattle.std.specs.Prelude.{slice_get}
use Rattle.std.proofs.lemmas.Bool.{cases_lt, cases_eq}
use Rattle.std.proofs.lemmas.List.Elements.{All-push}
use Rattle.access_slots.specs.declared.op.Op.{Op}
use Rattle.access_slots.specs.declared.op.Wire.{Wire}
use Rattle.access_slots.specs.declared.op.Reply.{Reply}
use Rattle.history.specs.Anew.{begun}
use Rattle.history.specs.Flight.{open_op, given, low_water}
use Rattle.data_component.specs.Performed.{said_under}
use Rattle.data_component.specs.Store.{Store}
use Rattle.transactions.specs.InFlight.{site_at}
use Rattle.transactions.proofs.StandingLemmas.{some_same}
use Rattle.serial.specs.Serial.{done}
use Rattle.serial.specs.Lists.{logged, dc_of}
use Rattle.serial.specs.Joining.Behind.{StandsTo}
use Rattle.serial.specs.Joining.Site.{Over, SiteOk}
use Rattle.serial.specs.Joining.Sites.{CopyOk, ReplyOk, IsAgain, AreOk}
use Rattle.serial.proofs.BackLemmas.{logged_above}
use Rattle.serial.proofs.SitesLemmas.{ok_copy}
use Rattle.tc_world.specs.Whole.{Whole}
use Rattle.tc_world.specs.Steps.{with_copy}
use Rattle.tc_world.specs.Marks.{AreMarksLow}
use Rattle.tc_world.specs.Joining.Listed.{IsListed, wires_since, replies_since}
use Rattle.tc_world.proofs.ComingBack.{all_at}
use Rattle.tc_world.proofs.Passing.{pushed, above_in, above_more}
use Rattle.tc_world.proofs.LivingLemmas.{Sound}
use Rattle.succession.specs.Redoing.{RedoesOn}

module _ (w : Whole) (x : Wire) (s : Sound w) (e : RedoesOn w x) where
  abbrev IsCopyIn : Wire → Type 0
  IsCopyIn y = CopyOk s.listed.base (logged w.core.events) (open_op w.core.events) (done w.core.events) (given w.core.events) w.core.sites w.dcs s.listed.ok.v y

  abbrev IsReplyIn : Reply → Type 0
  IsReplyIn y = ReplyOk (logged w.core.events) w.core.sites w.dcs s.listed.ok.v y

  the_copy : IsCopyIn e.before
  the_copy =
      let here = above_in (λ (z : Wire). z.number) (begun w.core.events) w.copies e.place e.before e.carried e.since in
      all_at IsCopyIn (wires_since w) here.0 e.before here.1 s.listed.ok.copies

  the_reply : IsReplyIn e.answer
  the_reply =
      let since = e.since in
      let same = e.of_it in
      let here = above_in (λ (z : Reply). z.number) (begun w.core.events) w.replies e.came e.answer e.replied (omega (arith, since, same)) in
      all_at IsReplyIn (replies_since w) here.0 e.answer here.1 s.listed.ok.replies

  -- what holds at the data component of the one holds at that of the other
  there : (P : ℕ → Type 0) → P (dc_of e.before.op) → P (dc_of x.op)
  there P = subst P (sym e.dc)

  -- the reply is to that operation
  same_op : the_reply.o ≡ e.before.op
  same_op = some_same the_reply.o e.before.op
      (sym the_reply.logs ∙ (ap (logged w.core.events) e.of_it ∙ the_copy.logs))

  at_store : (z : Store) × (slice_get w.dcs (dc_of x.op) ≡ Some z)
  at_store = (the_reply.s, ap (slice_get w.dcs) (e.dc ∙ ap dc_of (sym same_op)) ∙ the_reply.at)

  site : SiteOk s.listed.base (logged w.core.events) (open_op w.core.events) (done w.core.events) (given w.core.events) (dc_of x.op) at_store.0
      (site_at w.core.sites (dc_of x.op)) (s.listed.ok.v (dc_of x.op))
  site = s.listed.ok.stores (dc_of x.op) at_store.0 at_store.1

  -- that of the incarnation that is known
  module _ (now : x.incarnation ≡ (site_at w.core.sites (dc_of x.op)).incarnation) where
    now_before : e.before.incarnation ≡ (site_at w.core.sites (dc_of e.before.op)).incarnation
    now_before = sym e.incarnation ∙ (now ∙ ap (λ (d : ℕ). (site_at w.core.sites d).incarnation) e.dc)

    was_again : IsAgain (logged w.core.events) (done w.core.events) (dc_of e.before.op) (s.listed.ok.v (dc_of e.before.op)) e.before
    was_again = elim (the_copy.now now_before) [
      | inl first ↦ absurd (let bad : true ≡ false = sym e.again ∙ first.ordinary in cc)
      | inr again ↦ again
    ]

    -- the one before stands in the list
    stands_before : said_under (s.listed.ok.v (dc_of x.op)) e.before.number ≡ Some e.answer.said
    stands_before = elim (the_reply.now (e.said_by ∙ (now_before ∙ ap (λ (o : Op). (site_at w.core.sites (dc_of o)).incarnation) (sym same_op)))) [
      | inl old ↦ absurd (e.new old)
      | inr said ↦ subst (λ (d : ℕ). said_under (s.listed.ok.v d) e.before.number ≡ Some e.answer.said) (ap dc_of same_op ∙ sym e.dc)
          (subst (λ (n : ℕ). said_under (s.listed.ok.v (dc_of the_reply.o)) n ≡ Some e.answer.said) e.of_it said)
    ]

    low_enough : StandsTo (logged w.core.events) (done w.core.events) (dc_of x.op) x.low_water (s.listed.ok.v (dc_of x.op))
    low_enough = subst (λ (n : ℕ). StandsTo (logged w.core.events) (done w.core.events) (dc_of x.op) n (s.listed.ok.v (dc_of x.op))) (sym e.low)
        (there (λ d. StandsTo (logged w.core.events) (done w.core.events) d e.before.low_water (s.listed.ok.v d)) was_again.low)

    all_before : (p : ℕ) → x.number ≡ p + 1 → StandsTo (logged w.core.events) (done w.core.events) (dc_of x.op) p (s.listed.ok.v (dc_of x.op))
    all_before p is m o said logs at was did low = elim (e.next now) [
      | inl up ↦ (site.up up).answers m o said logs at was did
      | inr none ↦ elim (cases_lt e.before.number m) [
        | inl over ↦ (let far = none m o said logs at was did over in absurd (omega (arith, far, is, low)))
        | inr under ↦ elim (cases_eq m e.before.number) [
          | inl same ↦
              let here : said_under (s.listed.ok.v (dc_of x.op)) m ≡ Some e.answer.said =
              ap (said_under (s.listed.ok.v (dc_of x.op))) same ∙ stands_before in
              here ∙ ap Some (site.behind.agrees m o e.answer.said said logs at here was)
          | inr other ↦
              let next = was_again.next in
              there (λ d. StandsTo (logged w.core.events) (done w.core.events) d was_again.p (s.listed.ok.v d)) was_again.before
              m o said logs at was did (omega (arith, under, other, next))
        ]
      ]
    ]

  above : (p : ℕ) × (x.number ≡ p + 1)
  above = (let up = logged_above w.core.procs w.core.events s.known.legal x.number x.op e.logs in (x.number - 1, omega (arith, up)))

  copy : IsCopyIn x
  copy = record {
    logs = e.logs;
    known = (let same = e.incarnation in there (λ d. x.incarnation ≤ (site_at w.core.sites d).incarnation)
        (let few = the_copy.known in omega (arith, few, same)));
    ahead = λ z at less. e.incarnation ∙ (the_copy.ahead z (ap (slice_get w.dcs) (sym e.dc) ∙ at)
        (subst (λ (d : ℕ). z.incarnation < (site_at w.core.sites d).incarnation) e.dc less)
        ∙ ap (λ (d : ℕ). (site_at w.core.sites d).incarnation) (sym e.dc));
    over = subst (λ (n : ℕ). Over (open_op w.core.events) (given w.core.events) n) (sym e.low) the_copy.over;
    now = λ now. inr (record {
      redo = e.redo;
      dc = refl;
      said = e.said;
      was = e.was;
      did = e.did;
      p = above.0;
      next = above.1;
      before = all_before now above.0 above.1;
      low = low_enough now;
    });
  }

  up : begun w.core.events < x.number
  up = logged_above w.core.procs w.core.events s.known.legal x.number x.op e.logs

  listed : IsListed (with_copy w x)
  listed = record {
    base = s.listed.base;
    based = s.listed.based;
    behind = s.listed.behind;
    past = pushed (λ (z : Wire). z.number ≤ begun w.core.events → z.low_water ≤ begun w.core.events) w.copies x s.listed.past
        (λ old. absurd (let over = up in omega (arith, over, old)));
    honest = s.listed.honest;
    ok = subst (λ (xs : List Wire). AreOk s.listed.base (logged w.core.events) (open_op w.core.events) (done w.core.events) (given w.core.events)
        w.core.sites w.dcs xs (replies_since w) w.news) (sym (above_more (λ (z : Wire). z.number) (begun w.core.events) w.copies x up))
        (ok_copy s.listed.base (logged w.core.events) (open_op w.core.events) (done w.core.events) (given w.core.events) w.core.sites w.dcs (wires_since w)
        (replies_since w) w.news x s.listed.ok copy);
  }

  low : AreMarksLow (with_copy w x)
  low = record {
    copies = All-push (λ (y : Wire). y.low_water ≤ low_water w.core.events) w.copies x s.low.copies
        (let few = all_at (λ (y : Wire). y.low_water ≤ low_water w.core.events) w.copies e.place e.before e.carried s.low.copies in
        let same = e.low in omega (arith, few, same));
    dcs = s.low.dcs;
    saved = s.low.saved;
    news = s.low.news;
    redo = s.low.redo;
  }

  pub redone_on : Sound (with_copy w x)
  redone_on = record { known = record { legal = s.known.legal; good = s.known.good }; low = low; listed = listed }
