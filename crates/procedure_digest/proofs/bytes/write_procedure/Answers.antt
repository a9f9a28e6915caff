use Rattle.std.proofs.Common.{◌≡◌, ◌++◌, rules}
use Rattle.bpf_encoding.specs.Spells.{Spells}
use Rattle.std.specs.Prelude.{OnOk}
use Rattle.std.proofs.lemmas.Result.{on_ok_weaker}
use Rattle.procedure_digest.specs.Bytes.{decl_bytes}
use Rattle.procedure_digest.proofs.WritingLemmas.{FitBytes, procedure_written}
use Rattle.procedure_digest.proofs.bytes.write_procedure.Goals as goal

pub returns : goal.returns
returns c =
    let code = c.deref.result.now in
    let fit : FitBytes c.extend_from_slice.new.self.items = c.type_inv.out in
    let p = c.args.procedure.now in
    let spells : Spells c.deref.result.now c.args.procedure.now.code = search rules in
    let grown : OnOk c.extend_from_slice.result (c.extend_from_slice.new.self.items ≡ c.write_long.new.out.items ++ c.deref.result.now) = search rules in
    let first : c.write_decl.new.out.items ≡ c.args.out.now.items ++ decl_bytes c.args.procedure.now.decl = search rules in
    on_ok_weaker c.extend_from_slice.result
    (procedure_written p code _ c.args.out.now.items c.write_decl.new.out.items c.write_long.new.out.items
    c.extend_from_slice.new.self.items fit spells (search rules) first c.in_ok-write_long.ensures) grown
