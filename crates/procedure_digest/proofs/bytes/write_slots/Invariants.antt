use Rattle.std.proofs.Common.{◌≡◌, ◌++◌, take}
use Rattle.std.specs.List.{flat_map}
use Rattle.procedure_digest.specs.Bytes.{slot_bytes}
use Rattle.procedure_digest.proofs.bytes.write_slots.Given as goal

abbrev pub invariant-slots : goal.invariant-slots
invariant-slots l = l.out.items ≡ l.initial.out.items ++ flat_map slot_bytes (take l.slot-index l.slots)
