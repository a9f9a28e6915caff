use Rattle.std.proofs.Common.{◌∙◌, sym}
use Rattle.worker_pool.proofs.pool.Pool.ran_by.Goals as goal

pub returns-then-not-is_touched-clause-stopped : goal.returns-then-not-is_touched-clause-stopped
returns-then-not-is_touched-clause-stopped g c =
    c.into_state.ensures ∙ c.is_touched.ensures.start (sym c.if-not-is_touched.ensures.touched)
