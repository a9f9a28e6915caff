use Rattle.std.proofs.Common.{◌≡◌, ℕ, Option, None, List, replicate, ap, ◌∙◌, rules}
use Rattle.verifier.specs.Joining.Pending.{place_at}
use Rattle.verifier.proofs.Waiting.{kept_none, none_placed}
use Rattle.verifier.proofs.pending.Pending.new.Goals as goal

pub returns-clause-blank : goal.returns-clause-blank
returns-clause-blank c = λ at.
    let items : c.in_ok-places.places.items ≡ replicate c.args.slots None = search (rules, c.in_ok-places.ensures.items_if_clones_equal) in
    kept_none c.in_ok-places.places.items _ at (ap (λ (places : List (Option ℕ)). place_at places at) items ∙ none_placed c.args.slots at)
