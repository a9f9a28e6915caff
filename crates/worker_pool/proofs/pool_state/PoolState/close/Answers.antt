use Rattle.std.proofs.Common.{◌≡◌, ◌<◌, ◌∙◌, ℕ, List, length, ap, sym, subst}
use Rattle.worker_pool.specs.declared.answer.Progress.{Progress}
use Rattle.worker_pool.specs.Joining.Seen.{Seen, AreToldBy, IsAnswered}
use Rattle.worker_pool.proofs.Reported.{reported}
use Rattle.worker_pool.proofs.pool_state.PoolState.close.Goals as goal

pub returns-clause-reports : goal.returns-clause-reports
returns-clause-reports g c =
    let i = c.self.inside in
    let told = subst (λ (v : List Progress). AreToldBy v c.answers_of-answers.result.items) c.deref.ensures.value c.answers_of-answers.ensures in
    reported g.J.RunSpec.start g.J.RunSpec.calls i.state i.progress.items c.answers_of-answers.result.items c.self.invariant.0 c.known.ensures.legal told

pub answers_of-answers-requires-clause-answered : goal.answers_of-answers-requires-clause-answered
answers_of-answers-requires-clause-answered g c =
    λ k within. (
    let i = c.self.inside in
    let same : i.progress.items ≡ c.args.self.progress = ap (λ (v : Seen). v.progress) c.self.view_is in
    let value : c.deref.result.now ≡ i.progress.items = c.deref.ensures.value in
    let short : k < length g.J.RunSpec.calls = subst (λ (n : ℕ). k < n) (ap (λ (xs : List Progress). length xs) value ∙ c.self.invariant.0.one_each) within in
    subst (λ (v : List Progress). IsAnswered v k) (sym (value ∙ same)) (c.requires.all k short))
