use Rattle.std.proofs.Common.{◌≡◌, ◌++◌, rules}
use Rattle.std.specs.Int.{w64, to_le_bytes}
use Rattle.std.proofs.lemmas.Result.{on_ok_weaker}
use Rattle.procedure_digest.proofs.WritingLemmas.{slot_written}
use Rattle.procedure_digest.proofs.bytes.write_slot.Goals as goal

pub returns : goal.returns
returns c =
    let slot = c.args.slot.now in
    let second : c.write_long-2.new.out.items ≡ c.write_long.new.out.items ++ to_le_bytes w64 c.args.slot.now.dc = search rules in
    let third : c.write_long-3.new.out.items ≡ c.write_long-2.new.out.items ++ to_le_bytes w64 c.args.slot.now.table = search rules in
    let fourth : c.write_long-4.new.out.items ≡ c.write_long-3.new.out.items ++ to_le_bytes w64 c.key_kind.result = search rules in
    on_ok_weaker c.write_long-5.result
    (slot_written slot c.mode_number.result c.key_kind.result c.key_number.result c.args.out.now.items c.write_long.new.out.items c.write_long-2.new.out.items c.write_long-3.new.out.items
    c.write_long-4.new.out.items c.write_long-5.new.out.items c.mode_number.ensures c.key_kind.ensures c.key_number.ensures c.in_ok-write_long.ensures second third fourth)
    c.write_long-5.ensures
