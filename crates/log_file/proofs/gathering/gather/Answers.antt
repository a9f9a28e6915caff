use Rattle.std.proofs.Common.{rules, ◌≡◌, ◌%◌, length, List, ℕ, refl, sym, ◌∙◌, subst}
use Rattle.log_file.specs.Bytes.{batch_bytes}
use Rattle.log_file.specs.Reading.{IsBatch, IsSync}
use Rattle.log_file.specs.Joining.Fields.{batch_in}
use Rattle.log_file.proofs.GatheringLemmas.{gathered_more, first_none, whole_rows}
use Rattle.log_file.proofs.gathering.gather.Goals as goal

pub returns-in_default-clause-fault : goal.returns-in_default-clause-fault
returns-in_default-clause-fault c =
    let never : IsSync c.args.dcs c.deref.result.now → ⊥ = search rules in
    let first =
    first_none c.args.dcs c.args.payloads.now c.batches.place c.index-payloads-place.result c.deref.result.now c.batches.known.items c.batches.rows.items
    c.batches-test.true c.index-payloads-place.is c.deref.ensures.value c.batches.invariant.gathered never in
    (c.batches.place, refl, first)

pub batches-preserved : goal.batches-preserved
batches-preserved c =
    let p = c.deref.result.now in
    let notes : c.in-Some.notes.items ≡ (batch_in c.deref.result.now).notes = search rules in
    let more : c.in-Some.more.now ≡ (batch_in c.deref.result.now).rows = search rules in
    let fits : IsBatch c.args.dcs (batch_in c.deref.result.now) = search rules in
    let is : c.deref.result.now ≡ batch_bytes (batch_in c.deref.result.now) = search rules in
    record {
      gathered = gathered_more c.args.dcs c.args.payloads.now c.batches.place c.index-payloads-place.result
          c.deref.result.now c.batches.known.items c.take_notes.new.known.items c.batches.rows.items
          c.extend_from_slice.new.self.items
          c.deref-in-batches.result.now c.in-Some.more.now c.batches-test.true c.index-payloads-place.is
          c.deref.ensures.value c.batches.invariant.gathered fits is (c.deref-in-batches.ensures.value ∙ notes) more
          c.take_notes.ensures.known
          (search rules);
      len = c.take_notes.ensures.len ∙ c.batches.invariant.len;
    }

pub returns-clause-whole : goal.returns-clause-whole
returns-clause-whole c =
    let g = c.batches.invariant.gathered in
    subst (λ (r : List ℕ). length r % 96 ≡ 0) (sym g.rows_are) (whole_rows c.args.dcs g.batches g.are)
