use Rattle.std.proofs.Common.{◌≡◌, [], map, drop}
use Rattle.scripts.specs.Reading.{names_given}
use Rattle.scripts.proofs.reading.names_given.Given as goal

-- the names of those that are left come behind the ones so far
abbrev pub invariant-given : goal.invariant-given
invariant-given l = names_given [] l.given ≡ names_given (map (λ k. k.now) l.names.keys) (drop l.procedure-index l.given)
