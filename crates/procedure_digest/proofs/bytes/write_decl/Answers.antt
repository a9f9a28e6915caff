use Rattle.std.proofs.Common.{rules}
use Rattle.std.proofs.lemmas.Result.{on_ok_weaker}
use Rattle.procedure_digest.proofs.WritingLemmas.{decl_written}
use Rattle.procedure_digest.proofs.bytes.write_decl.Goals as goal

pub returns : goal.returns
returns c =
    on_ok_weaker c.write_slots.result
    (decl_written c.args.decl.now c.args-2.result _ c.slots-slots.result.now c.args.out.now.items c.write_long.new.out.items c.write_long-2.new.out.items c.write_slots.new.out.items
    c.args-2.ensures.value c.slots-slots.ensures.value (search rules) c.in_ok-write_long.ensures c.in_ok-write_long-2.ensures)
    c.write_slots.ensures
