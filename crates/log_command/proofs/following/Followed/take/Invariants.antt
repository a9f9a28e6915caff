use Rattle.std.proofs.Common.{◌≡◌, drop}
use Rattle.std.specs.List.{fold}
use Rattle.log_command.specs.Following.{after}
use Rattle.log_command.proofs.following.Followed.take.Given as goal

abbrev pub invariant-events : goal.invariant-events
invariant-events l = record {
  rest : l.self ≡ record l.initial.self { reached = l.self.reached };
  reached : fold after l.self.reached (drop l.place l.events) ≡ fold after l.initial.self.reached l.events;
}
