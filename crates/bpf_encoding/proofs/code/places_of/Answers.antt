use Rattle.std.proofs.Common.{arith, length-append}
use Rattle.bpf_encoding.specs.declared.insn.Place.{Place}
use Rattle.bpf_encoding.proofs.Written.{places_go_on}
use Rattle.bpf_encoding.proofs.code.places_of.Goals as goal

pub loop-insn-preserved : goal.loop-insn-preserved
loop-insn-preserved c =
    let l = c.loop-insn in
    rw c.in_ok-put.ensures (record {
      all = places_go_on l.insn-index c.args.insns.now _ l.places.items _ c.loop-insn-test.true l.invariant.all;
      short = omega (arith, length-append {A = Place}, c.slots.ensures.value);
    })
