use Rattle.std.proofs.Common.{◌≡◌, ◌*◌, ◌++◌, length, drop}
use Rattle.bpf_encoding.specs.Fields.{slots_from}
use Rattle.bpf_encoding.specs.Spelling.{fields_behind, fields_of_code}
use Rattle.bpf_encoding.proofs.encode.encode.Given as goal

abbrev pub invariant-loop-place : goal.invariant-loop-place
invariant-loop-place l = record {
  long : length l.bytes.items ≡ 8 * l.place-index;
  slots : slots_from l.place-index l.bytes.items ++ fields_behind l.high (drop l.place-index l.places) ≡ fields_of_code l.places;
}
