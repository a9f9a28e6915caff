use Rattle.std.proofs.Common.{◌≡◌, false, refl, rules}
use Rattle.bpf_encoding.specs.Spelling.{fields_of, is_wide}
use Rattle.bpf_encoding.specs.Joining.Viewed.{viewed}
use Rattle.bpf_encoding.specs.declared.insn.Insn.TheVariants.{LoadWide}
use Rattle.bpf_encoding.proofs.Growing.{takes_insn, takes_wide}
use Rattle.bpf_encoding.proofs.decode.take_first.Goals as goal

pub returns-clause-ok : goal.returns-clause-ok
returns-clause-ok c =
    let narrow : is_wide c.in-Ok.insn ≡ false = search rules in
    rw c.in_ok-push.ensures.items (takes_insn c.args.places.now.items c.in-Ok.insn _ narrow c.in-Ok.ensures.ok)

pub returns-in-LoadWide-clause-ok : goal.returns-in-LoadWide-clause-ok
returns-in-LoadWide-clause-ok c =
    let is : fields_of (LoadWide c.in-LoadWide.dst c.in-LoadWide.value) ≡ viewed c.args.slot.now = search rules in
    takes_wide c.args.places.now.items c.in-LoadWide.dst c.in-LoadWide.value _ _ is refl refl
