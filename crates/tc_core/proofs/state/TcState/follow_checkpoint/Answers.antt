use Rattle.std.proofs.Common.{arith, rules, ◌≡◌, ◌≤◌, ◌^◌, ◌∙◌, [], refl, ap, length, true}
use Rattle.transactions.specs.Room.{each_one, total}
use Rattle.transactions.proofs.StandingLemmas.{total-none}
use Rattle.slab.specs.Slab.{slab_len}
use Rattle.tc_core.proofs.AdmitLemmas.{book-room}
use Rattle.tc_core.proofs.Anewing.{empty_is}
use Rattle.tc_core.proofs.state.TcState.follow_checkpoint.Goals as goal

pub invariant_of-self-2 : goal.invariant_of-self-2
invariant_of-self-2 c =
    let b = c.self.inside.book in
    let k = c.self.invariant.0 in
    let nothing : c.is_empty.result ≡ true = search rules in
    let none : b.log.events ≡ [] = empty_is b.log.events c.is_empty.result c.is_empty.ensures nothing in
    let few : c.args.admitted ≤ 2 ^ 62 = omega (arith, c.if-admitted-gt-MOST.false) in
    let count : slab_len b.txns ≡ 0 = k.kept.rooms.count ∙ (ap (total each_one) none ∙ total-none each_one) in
    let room = c.reserve.ensures.room in (
      c.begin_behind.ensures.kept c.self.inside.procs.codes
          (book-room c.self.inside.procs.codes b _ k (record {
            events = c.reserve.ensures.events;
            log_room = room;
            claims = λ t r. refl;
            last = refl;
            pending = refl;
            number_room = omega arith;
            slots = refl;
            given_up = refl;
            from = refl;
            doubt_room = omega arith;
            sites = refl;
            starts = refl;
            serials = refl;
            owed = refl;
            promised = refl;
          }))
          count few,
      ap (λ v. length v.items) c.begin_behind.ensures.sites ∙ c.self.invariant.1,
    )
