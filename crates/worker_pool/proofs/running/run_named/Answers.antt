use Rattle.std.proofs.Common.{◌≡◌, ℕ, [], true, false, refl, sym, subst}
use Rattle.std.proofs.lemmas.Result.{IfOk-weaker, IfErr-weaker, MatchResult-from_both}
use Rattle.transactions.specs.Legal.{Legal}
use Rattle.tc_core.specs.Core.{Core}
use Rattle.worker_pool.specs.declared.running.RunFault.{RunFault}
use Rattle.worker_pool.specs.Faults.{InRange, FaultFits, IsUnkeptBy}
use Rattle.worker_pool.specs.Reports.{Reports}
use Rattle.worker_pool.specs.Journals.{HasGoneOn, HasKept}
use Rattle.worker_pool.specs.Joining.Handing.{events_of}
use Rattle.worker_pool.specs.Joining.Ran.{StopFits, KeepsAll, IsFaultOf}
use Rattle.worker_pool.proofs.Leaving.{leaves_first, leaves_only}
use Rattle.worker_pool.proofs.Stopping.{stop_fits, unkept_by}
use Rattle.worker_pool.proofs.Unbegun.{unbegun, unasked}
use Rattle.worker_pool.proofs.running.run_named.Goals as goal

pub returns-clause-kept : goal.returns-clause-kept
returns-clause-kept g c = λ keeps.
    let shelf = c.ran_by-group_commit.result.0 in
    IfOk-weaker c.ran_by-group_commit.result.1
    (λ r. g.J.RunSpec.keeps ≡ true → KeepsAll g.K.Journal.has_kept g.J.RunSpec.before g.J.RunSpec.start.events r.state.events shelf)
    (λ r. HasKept g.K.Journal.has_kept g.J.RunSpec.before c.into_journal-journal.result g.J.RunSpec.start.events r.state.events)
    (λ r all. record {
      behind = events_of shelf.handed;
      log = (all keeps).log;
      kept = λ events before. rw c.into_journal-journal.ensures.same ((all keeps).kept events before);
    })
    c.ran_by-group_commit.ensures.kept

pub returns-clause-which : goal.returns-clause-which
returns-clause-which g c =
    let start = g.J.RunSpec.start in
    let keeps = g.J.RunSpec.keeps in
    let ran = c.ran_by-group_commit.result.1 in
    let Fits : RunFault → Type 0 = FaultFits start keeps c.args.workers c.args.tries in
    MatchResult-from_both ran (λ _. InRange c.args.workers c.args.tries) Fits
    (IfOk-weaker ran (λ r. Reports start g.J.RunSpec.calls r.state r.answers.items) (λ _. InRange c.args.workers c.args.tries)
    (λ _ _. c.in-Ok.ensures.which) c.ran_by-group_commit.ensures.report)
    (IfErr-weaker ran (StopFits start keeps) Fits
    (λ f. stop_fits start keeps c.args.workers c.args.tries f c.in-Ok.ensures.which) c.ran_by-group_commit.ensures.stopped)

pub returns-in-Err-clause-which : goal.returns-in-Err-clause-which
returns-in-Err-clause-which g c =
    let f : RunFault = c.fault.result in
    let fits = subst (FaultFits c.args.state false c.args.workers c.args.tries) (sym c.fault.ensures) (c.in-Err.ensures.which c.args.state) in
    unbegun g.J.RunSpec.start g.J.RunSpec.keeps c.args.workers c.args.tries f
    (subst (λ (s : Core). FaultFits s false c.args.workers c.args.tries f) c.requires.state fits)

pub returns-in-Err-clause-unkept : goal.returns-in-Err-clause-unkept
returns-in-Err-clause-unkept g c =
    let fits = subst (FaultFits c.args.state false c.args.workers c.args.tries) (sym c.fault.ensures) (c.in-Err.ensures.which c.args.state) in
    unasked g.K.Journal.fails c.args.journal c.args.state c.args.workers c.args.tries c.fault.result fits

pub returns-clause-unkept : goal.returns-clause-unkept
returns-clause-unkept g c =
    let shelf = c.ran_by-group_commit.result.0 in
    let journal = c.into_journal-journal.result in
    IfErr-weaker c.ran_by-group_commit.result.1 (IsFaultOf shelf) (IsUnkeptBy g.K.Journal.fails journal)
    (unkept_by g.K.Journal.fails shelf journal c.into_journal-journal.ensures.unkept) c.ran_by-group_commit.ensures.unkept

pub returns-clause-any_moment : goal.returns-clause-any_moment
returns-clause-any_moment g c = λ events was.
    leaves_only g.K.Journal.moment g.K.Journal.left_since g.J.RunSpec.start g.J.RunSpec.since g.J.RunSpec.past
    g.J.RunSpec.leaves events c.args.journal c.into_journal-journal.result
    c.requires.since c.requires.past_only (c.into_journal-journal.ensures.left events was)

pub new-group_commit-requires-clause-left : goal.new-group_commit-requires-clause-left
new-group_commit-requires-clause-left g c = λ events was.
    let start = g.J.RunSpec.start in
    let gone_on : HasGoneOn start start = record {
      stays = refl;
      begins = record { later = []; is = refl };
      legal = subst (λ (s : Core). Legal s.procs s.events) c.requires.state c.known.ensures.legal;
    } in
    leaves_first g.K.Journal.moment g.K.Journal.left_since start g.J.RunSpec.since g.J.RunSpec.past g.J.RunSpec.leaves
    events c.args.journal c.requires.since gone_on c.requires.past (λ left l.
    c.requires.leaves events [] left
    ((g.met.K.Journal g.world.𝓛 g.world.𝓜 g.world.𝓡 ((λ s x. x), (λ x. x), (λ x. x), λ x. x)).kept_now
    c.args.journal events left (c.requires.before events was)
    (subst (λ (n : ℕ). g.K.Journal.left_since c.args.journal n left) c.requires.since l)))

pub returns-in-Err-clause-any_moment : goal.returns-in-Err-clause-any_moment
returns-in-Err-clause-any_moment g c = λ events was.
    let start = g.J.RunSpec.start in
    let gone_on : HasGoneOn start start = record {
      stays = refl;
      begins = record { later = []; is = refl };
      legal = subst (λ (s : Core). Legal s.procs s.events) c.requires.state c.known.ensures.legal;
    } in
    leaves_only g.K.Journal.moment g.K.Journal.left_since start g.J.RunSpec.since g.J.RunSpec.past g.J.RunSpec.leaves
    events c.args.journal c.args.journal c.requires.since c.requires.past_only
    (leaves_first g.K.Journal.moment g.K.Journal.left_since start g.J.RunSpec.since g.J.RunSpec.past g.J.RunSpec.leaves
    events c.args.journal c.requires.since gone_on c.requires.past (λ left l.
    c.requires.leaves events [] left
    ((g.met.K.Journal g.world.𝓛 g.world.𝓜 g.world.𝓡 ((λ s x. x), (λ x. x), (λ x. x), λ x. x)).kept_now
    c.args.journal events left (c.requires.before events was)
    (subst (λ (n : ℕ). g.K.Journal.left_since c.args.journal n left) c.requires.since l))))
