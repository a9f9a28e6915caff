use Rattle.std.proofs.Common.{rules, tests}
use Rattle.bpf_asm.proofs.Names.{in_parts}
use Rattle.bpf_asm.proofs.mnemonic.is_named.Goals as goal

pub returns : goal.returns
returns c =
    let parts = in_parts c.args.text.now c.name.result.0.now c.name.result.1.now in
    search (rules, tests, parts)
