use Rattle.std.proofs.Common.{rules, ◌≡◌, ◌∙◌, Result, Ok}
use Rattle.bpf_encoding.specs.Spelling.{number_of}
use Rattle.register_kinds.specs.declared.kind.Violation.{Violation}
use Rattle.register_kinds.specs.declared.kinds.Ways.{Ways}
use Rattle.register_kinds.specs.Kinds.{kind_at, with_kind}
use Rattle.register_kinds.specs.Computed.{source_kind, alu_kind}
use Rattle.register_kinds.specs.Transfer.{falls}
use Rattle.register_kinds.proofs.Checking.{three_passed}
use Rattle.register_kinds.proofs.effect.alu.Goals as goal

pub returns : goal.returns
returns c =
    let ks = c.args.kinds.now in
    let r = number_of c.args.dst in
    let kind : c.computed-kind.result ≡ alu_kind c.args.width c.args.operation (kind_at ks r) (source_kind ks c.args.source) = search rules in
    let after : falls (with_kind ks r c.computed-kind.result) ≡ falls (with_kind ks r (alu_kind c.args.width c.args.operation (kind_at ks r) (source_kind ks c.args.source))) = cc in
    after ∙ three_passed _ _ _ _ _ _ _ c.in_ok-read_left.ensures c.in_ok-read_source.ensures c.in_ok-writable.ensures
