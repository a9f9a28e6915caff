use Rattle.std.proofs.Common.{◌∙◌, ap}
use Rattle.bpf_encoding.specs.Spelling.{places_of}
use Rattle.script_loading.specs.Joining.Copies.{insns_in}
use Rattle.script_loading.proofs.CopyLemmas.{code_is}
use Rattle.script_loading.proofs.copies.code_again.Goals as goal

pub returns-in-Ok : goal.returns-in-Ok
returns-in-Ok c =
    c.in-Ok.ensures.ok
    ∙ (ap places_of c.as_slice.ensures.value
    ∙ code_is c.args.code.now c.in_ok-insns.insns.items (c.in_ok-insns.ensures ∙ ap insns_in c.places.ensures.value) c.places.ensures.code.whole)
