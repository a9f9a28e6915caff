use Rattle.std.proofs.Common.{◌≡◌, drop}
use Rattle.state_lines.specs.AuditLines.{first_gap}
use Rattle.state_lines.proofs.audit_lines.first_gap.Given as goal

abbrev pub invariant-loop-place : goal.invariant-loop-place
invariant-loop-place l = first_gap l.place l.state.sites (drop l.place l.dcs) ≡ first_gap 0 l.state.sites l.dcs
