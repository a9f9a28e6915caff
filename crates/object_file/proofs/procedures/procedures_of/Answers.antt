use Rattle.object_file.proofs.EachSection.{procedure_more, procedure_fault}
use Rattle.object_file.proofs.procedures.procedures_of.Goals as goal

pub sections-preserved : goal.sections-preserved
sections-preserved c =
    let l = c.sections in (
      procedure_more c.args.sections.now l.section-index _ l.procedures.items c.keep.new.all.items c.in_ok-found.found _ c.sections-test.true l.invariant.0
          c.in_ok-found.ensures c.in_ok-keep.ensures.all,
      procedure_fault c.args.sections.now l.section-index _ l.faults.items c.keep.new.faults.items c.in_ok-found.found _ c.sections-test.true l.invariant.1
          c.in_ok-found.ensures c.in_ok-keep.ensures.faults,
    )
