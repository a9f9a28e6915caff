use Rattle.std.proofs.Common.{◌≡◌, ◌*◌, ◌-◌, ◌++◌, true, false, length}
use Rattle.std.specs.Prelude.{is_some}
use Rattle.bpf_encoding.specs.Fields.{slots_from, slots_of}
use Rattle.bpf_encoding.specs.Spelling.{fields_of_code, is_whole}
use Rattle.bpf_encoding.specs.Spells.{first_fault}
use Rattle.bpf_encoding.specs.Named.{named_from, code_named}
use Rattle.bpf_encoding.specs.Joining.Taking.{due_fields, half_of}
use Rattle.bpf_encoding.proofs.decode.places_of.Given as goal

abbrev pub invariant-loop-at : goal.invariant-loop-at
invariant-loop-at l = record {
  long : length l.rest ≡ 8 * (l.count - l.at);
  fields : (fields_of_code l.places.items ++ due_fields l.due) ++ slots_from (l.count - l.at) l.rest ≡ slots_of l.bytes;
  named : l.places.items ++ named_from (half_of l.due) (slots_from (l.count - l.at) l.rest) ≡ code_named l.bytes;
  whole : is_whole false l.places.items ≡ true;
  faults : first_fault (is_some l.due) l.at (slots_from (l.count - l.at) l.rest) ≡ first_fault false 0 (slots_of l.bytes);
}
