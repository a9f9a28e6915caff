use Rattle.std.proofs.Common.{◌≡◌, ℕ, ◌≤◌, true, false, length, arith, sym, ◌∙◌, ap}
use Rattle.std.specs.Prelude.{IsTrue, ◌↔◌, reverse, take, drop}
use Rattle.std.specs.List.{All}
use Rattle.std.proofs.lemmas.List.{length-reverse}
use Rattle.access_slots.specs.declared.op.Reply.{Reply}
use Rattle.access_slots.specs.declared.op.News.{News}
use Rattle.tc_log.specs.declared.event.Event.{Event}
use Rattle.history.specs.Flight.{given, low_water}
use Rattle.tc_core.specs.Recovery.{first_events}
use Rattle.tc_world.specs.Whole.{Whole}
use Rattle.tc_world.specs.Recovery.{IsWrittenFor, IsWrittenAt}
use Rattle.tc_world.specs.Joining.Written.{given_of}
use Rattle.audit.proofs.GivenLemmas.{begun_few}
use Rattle.tc_world.proofs.CrashLemmas.{looks, copies_so, replies_so, stores_so, news_so, sites_so, both_so, not_so, lacking, may_crash}
use Rattle.tc_world.proofs.written.are_written.Goals as goal
use Rattle.tc_world.proofs.written.are_written.Goals.{then-are_wires_told, else-are_wires_told, then-are_replies_told}
use Rattle.tc_world.proofs.written.are_written.Goals.{else-are_replies_told, then-are_stores_told, else-are_stores_told}

pub given_in-given-requires : goal.given_in-given-requires
given_in-given-requires c = (let few = begun_few _ _ c.known.ensures.legal in let is = c.begun.ensures in omega (arith, few, is))

pub returns-then-are_news_told : goal.returns-then-are_news_told
returns-then-are_news_told c =
    let h = c.args.state.now.events in
    let w : Whole = record {
      core = c.args.state.now;
      dcs = c.args.dcs.now;
      copies = c.args.copies.now;
      replies = c.args.replies.now;
      news = c.args.news.now;
    } in
    let log : c.events-log.result ≡ reverse h = c.events-log.ensures ∙ ap reverse c.log.ensures in
    let inside : c.args.events ≤ length h = omega (arith, c.if-events-len.false, c.len.ensures, ap (length {A = Event}) log, length-reverse h) in
    let x = looks w c.args.events c.args.requests.now c.given_in-given.result c.low_left-low_water.result
    c.before-first.result c.behind-later.result c.known.ensures.legal c.requires inside
    (c.before-first.ensures ∙ ap (take c.args.events) log) (c.behind-later.ensures ∙ ap (drop c.args.events) log)
    (c.given_in-given.ensures ∙ ap (λ (b : ℕ). given_of b c.before-first.result) c.begun.ensures)
    c.low_left-low_water.ensures in
    let first = first_events c.args.events h in
    let copies : Type 0 = All (IsWrittenFor first) w.copies in
    let replies : Type 0 = All (λ (y : Reply). y.number ≤ given first) w.replies in
    let stores : Type 0 = All (IsWrittenAt first) w.dcs in
    let news : Type 0 = All (λ (y : ℕ × News). y.1.mark ≤ low_water first) w.news in
    let one : IsTrue c.are_wires_told.result ↔ copies = copies_so w c.args.events c.args.requests.now _ _ _ x
    c.are_wires_told.result c.are_wires_told.ensures in
    let two : IsTrue c.if-are_wires_told.value ↔ (copies × replies) = elim c.if-are_wires_told.branch [
      | then-are_wires_told b ↦ both_so c.if-are_wires_told.value b.are_replies_told.result copies replies b.value-is
          (one.0 b.if-are_wires_told.true) (replies_so w c.args.events c.args.requests.now _ _ _ x
          b.are_replies_told.result b.are_replies_told.ensures)
      | else-are_wires_told b ↦ not_so c.if-are_wires_told.value copies replies (b.value-is ∙ b.if-are_wires_told.false)
          (lacking c.are_wires_told.result copies one b.if-are_wires_told.false)
    ] in
    let three : IsTrue c.if-are_replies_told.value ↔ ((copies × replies) × stores) = elim c.if-are_replies_told.branch [
      | then-are_replies_told b ↦ both_so c.if-are_replies_told.value b.are_stores_told.result (copies × replies) stores
          b.value-is (two.0 b.if-are_replies_told.true) (stores_so w c.args.events c.args.requests.now _ _ _ x
          b.are_stores_told.result b.are_stores_told.ensures)
      | else-are_replies_told b ↦ not_so c.if-are_replies_told.value (copies × replies) stores
          (b.value-is ∙ b.if-are_replies_told.false) (lacking c.if-are_wires_told.value (copies × replies) two
          b.if-are_replies_told.false)
    ] in
    let four : IsTrue c.if-are_stores_told.value ↔ (((copies × replies) × stores) × news) = elim c.if-are_stores_told.branch [
      | then-are_stores_told b ↦ both_so c.if-are_stores_told.value b.are_news_told.result ((copies × replies) × stores)
          news b.value-is (three.0 b.if-are_stores_told.true)
          (news_so w c.args.events c.args.requests.now _ _ _ x b.are_news_told.result b.are_news_told.ensures)
      | else-are_stores_told b ↦ not_so c.if-are_stores_told.value ((copies × replies) × stores) news
          (b.value-is ∙ b.if-are_stores_told.false) (lacking c.if-are_replies_told.value ((copies × replies) × stores)
          three b.if-are_stores_told.false)
    ] in
    let told = four.0 c.if-are_news_told.true in
    let five = sites_so w c.args.events c.args.requests.now _ _ _ x c.are_sites_low.result c.are_sites_low.ensures in
    (λ all. may_crash w c.args.events inside told.0.0.0 told.0.0.1 told.0.1 told.1 (five.0 all), λ may. five.1 may.written.redo)

pub returns-else-are_news_told : goal.returns-else-are_news_told
returns-else-are_news_told c =
    let h = c.args.state.now.events in
    let w : Whole = record {
      core = c.args.state.now;
      dcs = c.args.dcs.now;
      copies = c.args.copies.now;
      replies = c.args.replies.now;
      news = c.args.news.now;
    } in
    let log : c.events-log.result ≡ reverse h = c.events-log.ensures ∙ ap reverse c.log.ensures in
    let inside : c.args.events ≤ length h = omega (arith, c.if-events-len.false, c.len.ensures, ap (length {A = Event}) log, length-reverse h) in
    let x = looks w c.args.events c.args.requests.now c.given_in-given.result c.low_left-low_water.result
    c.before-first.result c.behind-later.result c.known.ensures.legal c.requires inside
    (c.before-first.ensures ∙ ap (take c.args.events) log) (c.behind-later.ensures ∙ ap (drop c.args.events) log)
    (c.given_in-given.ensures ∙ ap (λ (b : ℕ). given_of b c.before-first.result) c.begun.ensures)
    c.low_left-low_water.ensures in
    let first = first_events c.args.events h in
    let copies : Type 0 = All (IsWrittenFor first) w.copies in
    let replies : Type 0 = All (λ (y : Reply). y.number ≤ given first) w.replies in
    let stores : Type 0 = All (IsWrittenAt first) w.dcs in
    let news : Type 0 = All (λ (y : ℕ × News). y.1.mark ≤ low_water first) w.news in
    let one : IsTrue c.are_wires_told.result ↔ copies = copies_so w c.args.events c.args.requests.now _ _ _ x
    c.are_wires_told.result c.are_wires_told.ensures in
    let two : IsTrue c.if-are_wires_told.value ↔ (copies × replies) = elim c.if-are_wires_told.branch [
      | then-are_wires_told b ↦ both_so c.if-are_wires_told.value b.are_replies_told.result copies replies b.value-is
          (one.0 b.if-are_wires_told.true) (replies_so w c.args.events c.args.requests.now _ _ _ x
          b.are_replies_told.result b.are_replies_told.ensures)
      | else-are_wires_told b ↦ not_so c.if-are_wires_told.value copies replies (b.value-is ∙ b.if-are_wires_told.false)
          (lacking c.are_wires_told.result copies one b.if-are_wires_told.false)
    ] in
    let three : IsTrue c.if-are_replies_told.value ↔ ((copies × replies) × stores) = elim c.if-are_replies_told.branch [
      | then-are_replies_told b ↦ both_so c.if-are_replies_told.value b.are_stores_told.result (copies × replies) stores
          b.value-is (two.0 b.if-are_replies_told.true) (stores_so w c.args.events c.args.requests.now _ _ _ x
          b.are_stores_told.result b.are_stores_told.ensures)
      | else-are_replies_told b ↦ not_so c.if-are_replies_told.value (copies × replies) stores
          (b.value-is ∙ b.if-are_replies_told.false) (lacking c.if-are_wires_told.value (copies × replies) two
          b.if-are_replies_told.false)
    ] in
    let four : IsTrue c.if-are_stores_told.value ↔ (((copies × replies) × stores) × news) = elim c.if-are_stores_told.branch [
      | then-are_stores_told b ↦ both_so c.if-are_stores_told.value b.are_news_told.result ((copies × replies) × stores)
          news b.value-is (three.0 b.if-are_stores_told.true)
          (news_so w c.args.events c.args.requests.now _ _ _ x b.are_news_told.result b.are_news_told.ensures)
      | else-are_stores_told b ↦ not_so c.if-are_stores_told.value ((copies × replies) × stores) news
          (b.value-is ∙ b.if-are_stores_told.false) (lacking c.if-are_replies_told.value ((copies × replies) × stores)
          three b.if-are_stores_told.false)
    ] in (
      λ all. absurd (let bad : false ≡ true = sym c.if-are_news_told.false ∙ all in cc),
      λ may. four.1 (((may.written.copies, may.written.replies), may.written.stores), may.written.news),
    )
