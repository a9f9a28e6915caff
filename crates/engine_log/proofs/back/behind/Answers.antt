use Rattle.std.proofs.Common.{◌≡◌, ap, length, refl, rules}
use Rattle.engine_log.proofs.BackLemmas.{is_back}
use Rattle.engine_log.proofs.back.behind.Goals as goal

pub returns-clause-back : goal.returns-clause-back
returns-clause-back c = λ h bytes stored own whole.
    let file = c.behind-file.result in
    let s = c.args.stored in
    let frames : file.frames ≡ s.frames = search rules in
    let events : file.events ≡ length s.log.events = search rules in
    is_back h bytes s (record { log = s.log; whole = c.args.whole; file = file }) stored (c.has_records.ensures.no c.if-has_records.false)
    own refl whole c.behind-file.ensures.header c.behind-file.ensures.session frames events (ap (λ v. v.items) c.behind-file.ensures.notes)
