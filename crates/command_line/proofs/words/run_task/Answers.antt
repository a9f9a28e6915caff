use Rattle.clap.specs.Words.{first_of, found_of, rows_of}
use Rattle.std.proofs.Common.{codes, sym, subst, ◌≡◌, ◌∙◌, ℕ, None}
use Rattle.std.proofs.lemmas.Result.{IfOk-weaker}
use Rattle.command_line.specs.Said.{SaysCount}
use Rattle.command_line.specs.Task.{Partitioned}
use Rattle.command_line.specs.Wanted.{IsTaskOrNoMemory}
use Rattle.command_line.proofs.Wishes.{lacks_no_count, logged_so, no_checkpoint, number_known, true_false}
use Rattle.command_line.proofs.words.run_task.Goals as goal

pub returns-then-is_logless-clause-partitioned : goal.returns-then-is_logless-clause-partitioned
returns-then-is_logless-clause-partitioned c = λ workers tries audit strict log script says.
    let over : c.in_ok-over.over ≡ None = rw says.6.6 at c.in_ok-over.ensures.ok in
    absurd (true_false (sym c.if-is_logless.true ∙ (c.is_logless.ensures
    ∙ no_checkpoint _ c.flag_of-checkpoint.result c.in_ok-over.over (c.flag_of-checkpoint.ensures _ says.6.5) over)))

pub returns-then-flag_of-clause-task : goal.returns-then-flag_of-clause-task
returns-then-flag_of-clause-task c = λ workers tries stats audit strict results tell metrics trace log checkpoint over script says.
    absurd (true_false (sym c.if-flag_of.true ∙ c.flag_of.ensures _ says.13))

pub returns-then-flag_of-clause-partitioned : goal.returns-then-flag_of-clause-partitioned
returns-then-flag_of-clause-partitioned c = λ workers tries audit strict log script says.
    let rows = rows_of (found_of c.args.matches.now) in
    let workers_is : c.in_ok-workers.workers ≡ workers = cc (c.in_ok-workers.ensures.count workers says.0) in
    let tries_is : c.in_ok-tries.tries ≡ tries = cc (c.in_ok-tries.ensures.count tries says.1) in
    let own = c.partitioned_task.ensures.task audit strict log script (
      subst (SaysCount (first_of (codes "workers") rows) 4) (sym workers_is) says.0,
      subst (SaysCount (first_of (codes "tries") rows) 3) (sym tries_is) says.1,
      says.2,
      says.3,
      says.4,
      says.5,
      says.6,
      says.7,
    ) in
    subst (λ (n : ℕ). IsTaskOrNoMemory (Partitioned n tries audit strict log script) c.partitioned_task.result) workers_is
    (subst (λ (n : ℕ). IsTaskOrNoMemory (Partitioned c.in_ok-workers.workers n audit strict log script) c.partitioned_task.result) tries_is own)

pub returns-then-flag_of-clause-wrong : goal.returns-then-flag_of-clause-wrong
returns-then-flag_of-clause-wrong c =
    let rows = rows_of (found_of c.args.matches.now) in
    let over = c.in_ok-over.over in
    IfOk-weaker c.partitioned_task.result _ _
    (λ task none. lacks_no_count rows c.in_ok-workers.ensures.wrong c.in_ok-tries.ensures.wrong
    (number_known (first_of (codes "checkpoint-over") rows) over c.in_ok-over.ensures.ok)
    (logged_so (λ s. s.now) rows c.text_of-log.result c.flag_of-checkpoint.result over c.text_of-log.ensures c.flag_of-checkpoint.ensures c.in_ok-over.ensures.ok
    (sym c.is_logless.ensures ∙ c.if-is_logless.false))
    (λ flag more. none more))
    c.partitioned_task.ensures.wrong

pub returns-clause-partitioned : goal.returns-clause-partitioned
returns-clause-partitioned c = λ workers tries audit strict log script says. absurd (true_false (sym (c.flag_of.ensures _ says.5) ∙ c.if-flag_of.false))

pub returns-clause-wrong : goal.returns-clause-wrong
returns-clause-wrong c =
    let rows = rows_of (found_of c.args.matches.now) in
    let over = c.in_ok-over.over in
    lacks_no_count rows c.in_ok-workers.ensures.wrong c.in_ok-tries.ensures.wrong
    (number_known (first_of (codes "checkpoint-over") rows) over c.in_ok-over.ensures.ok)
    (logged_so (λ s. s.now) rows c.text_of-log.result c.flag_of-checkpoint.result over c.text_of-log.ensures c.flag_of-checkpoint.ensures c.in_ok-over.ensures.ok
    (sym c.is_logless.ensures ∙ c.if-is_logless.false))
    (λ flag more. true_false (sym (c.flag_of.ensures _ flag) ∙ c.if-flag_of.false))
