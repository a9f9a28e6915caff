use Rattle.std.proofs.Common.{arith, ap, length, map}
use Rattle.object_file.specs.Object.{declared_of}
use Rattle.object_procedures.specs.Finding.{found_of}
use Rattle.object_procedures.proofs.FindingLemmas.{kept_more, refusals_more}
use Rattle.object_procedures.proofs.finding.all_found.Goals as goal

pub procedures-preserved : goal.procedures-preserved
procedures-preserved c =
    let l = c.procedures in
    let s = c.in-Some.ensures.steps in
    let count = ap length s.0 in (
      omega (arith, l.invariant.0, s.1, count),
      (
        kept_more found_of (map declared_of l.procedure-iterator.rest.items) (map declared_of c.next.new.self.rest.items) (declared_of c.in-Some.procedure)
            l.found.items c.keep.new.all.items _ _ (ap (map declared_of) s.0) c.in_ok-one.ensures c.in_ok-keep.ensures.all l.invariant.1.0,
        refusals_more found_of (map declared_of l.procedure-iterator.rest.items) (map declared_of c.next.new.self.rest.items) (declared_of c.in-Some.procedure)
            l.refusals.items c.keep.new.refusals.items _ _ (ap (map declared_of) s.0) c.in_ok-one.ensures c.in_ok-keep.ensures.refusals l.invariant.1.1,
      ),
    )
