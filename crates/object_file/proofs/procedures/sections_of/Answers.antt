use Rattle.object_file.specs.Object.{named, section_said}
use Rattle.object_file.proofs.Gathering.{as_viewed, kept_more, faults_more}
use Rattle.object_file.proofs.procedures.sections_of.Goals as goal

pub headers-preserved : goal.headers-preserved
headers-preserved c =
    let l = c.headers in
    let here = as_viewed named _ c.section_of-found.result c.section_of-found.ensures.ok c.section_of-found.ensures.err in (
      kept_more named (section_said c.args.file.now c.args.names.now c.args.headers.now) l.number c.args.headers.now _ l.sections.items c.keep.new.all.items
          c.section_of-found.result _ c.headers-test.true l.invariant.0 here c.in_ok-keep.ensures.all,
      faults_more named (section_said c.args.file.now c.args.names.now c.args.headers.now) l.number c.args.headers.now _ l.faults.items c.keep.new.faults.items
          c.section_of-found.result _ c.headers-test.true l.invariant.1 here c.in_ok-keep.ensures.faults,
    )
