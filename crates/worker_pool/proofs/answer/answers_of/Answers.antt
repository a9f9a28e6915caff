use Rattle.std.proofs.Common.{◌≡◌, ◌∙◌, true, false, sym, ap, inl, inr, get_or}
use Rattle.std.proofs.lemmas.Option.{get_or_from_slice_get}
use Rattle.worker_pool.specs.declared.answer.Progress.TheVariants.{Waiting, Answered}
use Rattle.worker_pool.proofs.Steps.{is_answered}
use Rattle.worker_pool.proofs.answer.answers_of.Goals as goal

pub unreachable-requires : goal.unreachable-requires
unreachable-requires c =
    let here = c.requires.answered c.loop-p.p-index c.loop-p-test.true in
    let answered : get_or c.args.progress.now c.loop-p.p-index Waiting ≡ Answered here.answer here.txn =
    get_or_from_slice_get c.args.progress.now c.loop-p.p-index (Answered here.answer here.txn) Waiting here.at in
    elim c.in-Waiting.is [
      | inl is ↦ let bad : true ≡ false = sym (ap is_answered answered) ∙ ap is_answered is in cc
      | inr is ↦ let bad : true ≡ false = sym (ap is_answered answered) ∙ ap is_answered is.1 in cc
    ]
