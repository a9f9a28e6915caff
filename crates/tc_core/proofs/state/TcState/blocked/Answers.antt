use Rattle.tc_core.specs.Admission.{call_of}
use Rattle.tc_core.proofs.AdmitLemmas.{busy-call, named_locks, wanted_locks}
use Rattle.tc_core.proofs.BlockedLemmas.{blocked_if}
use Rattle.tc_core.proofs.state.TcState.blocked.Goals as goal

pub returns : goal.returns
returns c =
    let call = call_of c.args.call.now in
    let q = c.in-Ok.code.now in
    let called = c.in-Ok.ensures.ok in
    let locks = named_locks q _ _ _ c.decl.ensures c.resolve-set.ensures.value in
    let first = busy-call c.self.inside.procs.codes c.self.inside.book call q c.as_slice.result.now c.resolve-set.result _ _
    c.self.invariant.0 called c.as_slice.ensures.value locks c.in-Some.ensures.some in
    rw (← c.self.view_is) (blocked_if c.self.inside.procs c.self.inside.book call c.resolve-set.result c.all_stranded.result c.self.invariant.0
    (record { q = q; is = called })
    (wanted_locks c.self.inside.procs.codes call q c.as_slice.result.now c.resolve-set.result called c.as_slice.ensures.value locks) c.resolve-set.ensures.rising
    _ _ first.stands c.all_stranded.ensures.all c.all_stranded.ensures.some)
