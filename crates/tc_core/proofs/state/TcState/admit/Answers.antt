use Rattle.std.proofs.Common.{length, ◌∙◌, ap}
use Rattle.transactions.specs.declared.Site.{Site}
use Rattle.tc_core.specs.Admission.{call_of}
use Rattle.tc_core.proofs.AdmitLemmas.{admissible, book-room, free-call, busy-call, many-needed, may-enter, named_locks}
use Rattle.tc_core.proofs.state.TcState.admit.Goals as goal

pub returns-in-Some-clause-refused : goal.returns-in-Some-clause-refused
returns-in-Some-clause-refused c =
    let q = c.in_ok-code.code.now in
    let called = c.in_ok-code.ensures.ok in
    let locks = named_locks q _ _ _ c.decl.ensures c.resolve-set.ensures.value in
    let busy = busy-call c.self.inside.procs.codes c.self.inside.book (call_of c.args.call.now) q c.as_slice.result.now c.resolve-set.result _ _
    c.self.invariant.0 called c.as_slice.ensures.value locks c.in-Some.ensures.some in
    rw (← c.self.view_is) (record { q = q; is = called }, busy)

pub returns-then-is_spent-clause-refused : goal.returns-then-is_spent-clause-refused
returns-then-is_spent-clause-refused c =
    let q = c.in_ok-code.code.now in
    let called = c.in_ok-code.ensures.ok in
    let locks = named_locks q _ _ _ c.decl.ensures c.resolve-set.ensures.value in
    let free = free-call c.self.inside.procs.codes c.self.inside.book (call_of c.args.call.now) q c.as_slice.result.now c.resolve-set.result
    c.self.invariant.0 called c.as_slice.ensures.value locks c.in_default.ensures.none in
    let many = many-needed c.self.inside.procs c.self.inside.book q c.last.result c.calls_of-calls.result c.is_spent.result
    c.self.invariant.0 c.last.ensures.value c.calls_of-calls.ensures.calls c.is_spent.ensures c.if-is_spent.true in
    rw (← c.self.view_is) (record { q = q; is = called }, free, many)

pub returns-in_default-copy_of-clause-refused : goal.returns-in_default-copy_of-clause-refused
returns-in_default-copy_of-clause-refused c =
    let q = c.in_ok-code.code.now in
    let called = c.in_ok-code.ensures.ok in
    let locks = named_locks q _ _ _ c.decl.ensures c.resolve-set.ensures.value in
    let may = admissible c.self.inside.procs c.self.inside.book (call_of c.args.call.now) q _ c.resolve-set.result _ _ _
    c.self.invariant.0 called c.as_slice.ensures.value locks c.in_default.ensures.none
    c.last.ensures.value c.calls_of-calls.ensures.calls c.is_spent.ensures c.if-is_spent.false in
    rw (← c.self.view_is) (record { takes = record { q = q; is = called }; free = may.0; few = may.1 })

pub returns-in_default-make_room-clause-refused : goal.returns-in_default-make_room-clause-refused
returns-in_default-make_room-clause-refused c =
    let q = c.in_ok-code.code.now in
    let called = c.in_ok-code.ensures.ok in
    let locks = named_locks q _ _ _ c.decl.ensures c.resolve-set.ensures.value in
    let may = admissible c.self.inside.procs c.self.inside.book (call_of c.args.call.now) q _ c.resolve-set.result _ _ _
    c.self.invariant.0 called c.as_slice.ensures.value locks c.in_default.ensures.none
    c.last.ensures.value c.calls_of-calls.ensures.calls c.is_spent.ensures c.if-is_spent.false in
    rw (← c.self.view_is) (record { takes = record { q = q; is = called }; free = may.0; few = may.1 })

pub returns-clause-admitted : goal.returns-clause-admitted
returns-clause-admitted c =
    let q = c.in_ok-code.code.now in
    let called = c.in_ok-code.ensures.ok in
    let locks = named_locks q _ _ _ c.decl.ensures c.resolve-set.ensures.value in
    let may = admissible c.self.inside.procs c.self.inside.book (call_of c.args.call.now) q _ c.resolve-set.result _ _ _
    c.self.invariant.0 called c.as_slice.ensures.value locks c.in_default.ensures.none
    c.last.ensures.value c.calls_of-calls.ensures.calls c.is_spent.ensures c.if-is_spent.false in
    rw (← c.self.view_is) (record { takes = record { q = q; is = called }; free = may.0; few = may.1 })

pub enter-requires : goal.enter-requires
enter-requires c =
    let q = c.in_ok-code.code.now in
    let called = c.in_ok-code.ensures.ok in
    let locks = named_locks q _ _ _ c.decl.ensures c.resolve-set.ensures.value in
    let may = admissible c.self.inside.procs c.self.inside.book (call_of c.args.call.now) q _ c.resolve-set.result _ _ _
    c.self.invariant.0 called c.as_slice.ensures.value locks c.in_default.ensures.none
    c.last.ensures.value c.calls_of-calls.ensures.calls c.is_spent.ensures c.if-is_spent.false in (
      c.self.inside.procs.codes,
      may-enter c.self.inside.procs c.self.inside.book c.make_room.new.self (call_of c.args.call.now) q c.as_slice.result.now
          c.in-Ok.args c.in-Ok-make_room.undo c.resolve-set.result c.calls_of-calls.result
          c.self.invariant.0 called may.0 may.1 c.as_slice.ensures.value locks
          (c.in-Ok.ensures ∙ c.as_slice-2.ensures.value) c.in-Ok-make_room.ensures.undone c.in-Ok-make_room.ensures.undo
          c.calls_of-calls.ensures.calls c.make_room.ensures.kept c.in-Ok-make_room.ensures.room,
    )

pub invariant_of-self : goal.invariant_of-self
invariant_of-self c = (
  book-room c.self.inside.procs.codes c.self.inside.book c.make_room.new.self c.self.invariant.0 c.make_room.ensures.kept,
  ap (length {A = Site}) c.make_room.ensures.kept.sites ∙ c.self.invariant.1,
)

pub invariant_of-self-2 : goal.invariant_of-self-2
invariant_of-self-2 c =
    let q = c.in_ok-code.code.now in
    let called = c.in_ok-code.ensures.ok in
    let locks = named_locks q _ _ _ c.decl.ensures c.resolve-set.ensures.value in
    let may = admissible c.self.inside.procs c.self.inside.book (call_of c.args.call.now) q _ c.resolve-set.result _ _ _
    c.self.invariant.0 called c.as_slice.ensures.value locks c.in_default.ensures.none
    c.last.ensures.value c.calls_of-calls.ensures.calls c.is_spent.ensures c.if-is_spent.false in
    let enters = may-enter c.self.inside.procs c.self.inside.book c.make_room.new.self (call_of c.args.call.now) q c.as_slice.result.now
    c.in-Ok.args c.in-Ok-make_room.undo c.resolve-set.result c.calls_of-calls.result
    c.self.invariant.0 called may.0 may.1 c.as_slice.ensures.value locks
    (c.in-Ok.ensures ∙ c.as_slice-2.ensures.value) c.in-Ok-make_room.ensures.undone c.in-Ok-make_room.ensures.undo
    c.calls_of-calls.ensures.calls c.make_room.ensures.kept c.in-Ok-make_room.ensures.room in (
      c.enter.ensures.kept _ enters,
      ap (λ v. length v.items) c.enter.ensures.sites ∙ (ap (length {A = Site}) c.make_room.ensures.kept.sites ∙ c.self.invariant.1),
    )
