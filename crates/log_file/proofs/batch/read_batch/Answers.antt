use Rattle.std.proofs.Common.{rules, ◌≡◌, ◌<◌, ◌%◌, length, true, false, List, ℕ, sym, ◌∙◌, ap, ap₂, subst}
use Rattle.std.specs.List.{All}
use Rattle.log_file.specs.declared.note.Note.{Note}
use Rattle.log_file.specs.Bytes.{batch_bytes}
use Rattle.log_file.specs.Joining.Fields.{batch_in, IsShort}
use Rattle.log_file.proofs.BackLemmas.{batch_at, short_none, unfit_none, other_none}
use Rattle.log_file.proofs.batch.read_batch.Goals as goal

pub returns-in_default-clause-none : goal.returns-in_default-clause-none
returns-in_default-clause-none c =
    let short : IsShort c.args.payload.now = search rules in
    short_none c.args.dcs c.args.payload.now short

pub returns-then-rows-ne0-clause-none : goal.returns-then-rows-ne0-clause-none
returns-then-rows-ne0-clause-none c =
    let rows : c.in-Some.rows.now ≡ (batch_in c.args.payload.now).rows = search rules in
    unfit_none c.args.dcs c.args.payload.now (λ b. c.if-rows-ne0.true (ap (λ (l : List ℕ). length l % 96) rows ∙ b.whole))

pub returns-then-not-are_there-clause-none : goal.returns-then-not-are_there-clause-none
returns-then-not-are_there-clause-none c =
    let notes : c.in-Some.notes.items ≡ (batch_in c.args.payload.now).notes = search rules in
    let same : c.deref.result.now ≡ (batch_in c.args.payload.now).notes = c.deref.ensures.value ∙ notes in
    unfit_none c.args.dcs c.args.payload.now (λ b. (
    let yes : c.are_there.result ≡ true = c.are_there.ensures.1 (subst (λ (ns : List Note). All (λ (n : Note). n.dc < c.args.dcs) ns) (sym same) b.there) in
    let bad : true ≡ false = sym yes ∙ c.if-not-are_there.true in
    cc))

pub returns-clause-none : goal.returns-clause-none
returns-clause-none c =
    let notes : c.in-Some.notes.items ≡ (batch_in c.args.payload.now).notes = search rules in
    let rows : c.in-Some.rows.now ≡ (batch_in c.args.payload.now).rows = search rules in
    let same : batch_at c.deref-2.result.now c.in-Some.rows.now ≡ batch_in c.args.payload.now = ap₂ batch_at (c.deref-2.ensures.value ∙ notes) rows in
    let again : c.deref-3.result.now ≡ batch_bytes (batch_in c.args.payload.now) = c.deref-3.ensures.value ∙ (c.in_ok-again.ensures ∙ ap batch_bytes same) in
    other_none c.args.dcs c.args.payload.now (λ e. (
    let yes : c.is_same.result ≡ true = c.is_same.ensures.1 (again ∙ e) in
    let bad : true ≡ false = sym yes ∙ c.if-is_same.false in
    cc))
