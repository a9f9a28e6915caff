use Rattle.std.proofs.Common.{◌≡◌, ◌∙◌, refl}
use Rattle.lower_tests.proofs.lock_tests.waits_for_all.Goals as goal

pub grant-requires-2-clause-nothing : goal.grant-requires-2-clause-nothing
grant-requires-2-clause-nothing g c = λ r. c.reserve-2.ensures.held 2 r ∙ c.grant.ensures.others 2 r refl ∙ c.reserve.ensures.held 2 r ∙ c.requires 2 r

pub grant-requires-3-clause-nothing : goal.grant-requires-3-clause-nothing
grant-requires-3-clause-nothing g c = λ r.
    c.reserve-3.ensures.held 3 r ∙ c.grant-2.ensures.others 3 r refl
    ∙ c.reserve-2.ensures.held 3 r ∙ c.grant.ensures.others 3 r refl ∙ c.reserve.ensures.held 3 r ∙ c.requires 3 r

pub grant-requires-4-clause-nothing : goal.grant-requires-4-clause-nothing
grant-requires-4-clause-nothing g c = λ r.
    c.reserve-4.ensures.held 4 r ∙ c.grant-3.ensures.others 4 r refl ∙ c.reserve-3.ensures.held 4 r ∙ c.grant-2.ensures.others 4 r refl
    ∙ c.reserve-2.ensures.held 4 r ∙ c.grant.ensures.others 4 r refl ∙ c.reserve.ensures.held 4 r ∙ c.requires 4 r
