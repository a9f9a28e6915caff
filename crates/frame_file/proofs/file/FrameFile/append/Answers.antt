use Rattle.std.proofs.Common.{◌≡◌, ℕ, ◌+◌, List, [], ◌∷◌, ◌++◌, length, sym, ◌∙◌, ap, subst, arith, length-append, rules}
use Rattle.frame_file.specs.Device.{Only}
use Rattle.frame_file.specs.Frame.{framed, frames_from}
use Rattle.frame_file.specs.Reading.{IsBeforeOrAfter}
use Rattle.frame_file.proofs.Frames.{frames_push, fit_push}
use Rattle.frame_file.proofs.Torns.{whole, append_crash}
use Rattle.frame_file.proofs.Moments.{started, goes_on}
use Rattle.frame_file.proofs.file.FrameFile.append.Goals as goal

pub returns-in_default-clause-any_moment : goal.returns-in_default-clause-any_moment
returns-in_default-clause-any_moment g c payloads settled =
    let p = c.args.payload.now in
    let P = IsBeforeOrAfter payloads p in
    let only = subst (λ f. Only f (g.D.Device.may_leave c.args.self.now.device)) settled.bytes settled.durable in
    let at_start = started g.D.Device.moment g.D.Device.left_since c.args.self.now.device P
    (λ f left. whole payloads p settled.fit f (only f (g.met.D.Device.only_now c.args.self.now.device f left))) in
    at_start

pub returns-in_err-frame-clause-any_moment : goal.returns-in_err-frame-clause-any_moment
returns-in_err-frame-clause-any_moment g c payloads settled =
    let p = c.args.payload.now in
    let P = IsBeforeOrAfter payloads p in
    let only = subst (λ f. Only f (g.D.Device.may_leave c.args.self.now.device)) settled.bytes settled.durable in
    let at_start = started g.D.Device.moment g.D.Device.left_since c.args.self.now.device P
    (λ f left. whole payloads p settled.fit f (only f (g.met.D.Device.only_now c.args.self.now.device f left))) in
    at_start

pub returns-in_err-write_frame-clause-any_moment : goal.returns-in_err-write_frame-clause-any_moment
returns-in_err-write_frame-clause-any_moment g c payloads settled =
    let p = c.args.payload.now in
    let P = IsBeforeOrAfter payloads p in
    let only = subst (λ f. Only f (g.D.Device.may_leave c.args.self.now.device)) settled.bytes settled.durable in
    let at_start = started g.D.Device.moment g.D.Device.left_since c.args.self.now.device P
    (λ f left. whole payloads p settled.fit f (only f (g.met.D.Device.only_now c.args.self.now.device f left))) in
    at_start

pub returns-in_err-append-clause-any_moment : goal.returns-in_err-append-clause-any_moment
returns-in_err-append-clause-any_moment g c payloads settled =
    let p = c.args.payload.now in
    let P = IsBeforeOrAfter payloads p in
    let only = subst (λ f. Only f (g.D.Device.may_leave c.args.self.now.device)) settled.bytes settled.durable in
    let at_start = started g.D.Device.moment g.D.Device.left_since c.args.self.now.device P
    (λ f left. whole payloads p settled.fit f (only f (g.met.D.Device.only_now c.args.self.now.device f left))) in
    let bytes_are : c.deref.result.now ≡ framed c.args.self.now.count p = search rules in
    let after : (f : List ℕ) → g.D.Device.may_leave c.append.new.self f
    → P f = append_crash payloads p settled.fit c.deref.result.now c.args.self.now.count _ _ (search rules)
    bytes_are settled.count only c.append.ensures.crash in
    let behind = goes_on g.D.Device.moment g.D.Device.left_since c.args.self.now.device c.args.self.now.device
    c.append.new.self P _ at_start c.append.ensures.time after in
    behind

pub returns-in_err-sync-clause-any_moment : goal.returns-in_err-sync-clause-any_moment
returns-in_err-sync-clause-any_moment g c payloads settled =
    let p = c.args.payload.now in
    let P = IsBeforeOrAfter payloads p in
    let only = subst (λ f. Only f (g.D.Device.may_leave c.args.self.now.device)) settled.bytes settled.durable in
    let at_start = started g.D.Device.moment g.D.Device.left_since c.args.self.now.device P
    (λ f left. whole payloads p settled.fit f (only f (g.met.D.Device.only_now c.args.self.now.device f left))) in
    let bytes_are : c.deref.result.now ≡ framed c.args.self.now.count p = search rules in
    let after : (f : List ℕ) → g.D.Device.may_leave c.append.new.self f
    → P f = append_crash payloads p settled.fit c.deref.result.now c.args.self.now.count _ _ (search rules)
    bytes_are settled.count only c.append.ensures.crash in
    let behind = goes_on g.D.Device.moment g.D.Device.left_since c.args.self.now.device c.args.self.now.device
    c.append.new.self P _ at_start c.append.ensures.time after in
    let kept = goes_on g.D.Device.moment g.D.Device.left_since c.args.self.now.device c.append.new.self c.sync.new.self
    P _ behind c.sync.ensures.time (λ f now. after f (c.sync.ensures.crash f now)) in
    kept

pub returns-clause-any_moment : goal.returns-clause-any_moment
returns-clause-any_moment g c payloads settled =
    let p = c.args.payload.now in
    let P = IsBeforeOrAfter payloads p in
    let only = subst (λ f. Only f (g.D.Device.may_leave c.args.self.now.device)) settled.bytes settled.durable in
    let at_start = started g.D.Device.moment g.D.Device.left_since c.args.self.now.device P
    (λ f left. whole payloads p settled.fit f (only f (g.met.D.Device.only_now c.args.self.now.device f left))) in
    let bytes_are : c.deref.result.now ≡ framed c.args.self.now.count p = search rules in
    let after : (f : List ℕ) → g.D.Device.may_leave c.append.new.self f
    → P f = append_crash payloads p settled.fit c.deref.result.now c.args.self.now.count _ _ (search rules)
    bytes_are settled.count only c.append.ensures.crash in
    let behind = goes_on g.D.Device.moment g.D.Device.left_since c.args.self.now.device c.args.self.now.device
    c.append.new.self P _ at_start c.append.ensures.time after in
    let kept = goes_on g.D.Device.moment g.D.Device.left_since c.args.self.now.device c.append.new.self c.sync.new.self
    P _ behind c.sync.ensures.time (λ f now. after f (c.sync.ensures.crash f now)) in
    kept

-- and then it is on the disk
pub returns-clause-acknowledged : goal.returns-clause-acknowledged
returns-clause-acknowledged g c payloads settled =
    let p = c.args.payload.now in
    let n = c.args.self.now.count in
    let bytes_are : c.deref.result.now ≡ framed n p = search rules in
    let at : n ≡ 0 + length payloads = (let count = settled.count in omega (arith, count)) in
    let more : g.D.Device.seen c.append.new.self ≡ frames_from 0 payloads ++ framed n p
    = c.in_ok-append.ensures.written
    ∙ (ap (λ (b : List ℕ). b ++ c.deref.result.now) settled.bytes ∙ ap (λ (b : List ℕ). frames_from 0 payloads ++ b) bytes_are) in
    let count = settled.count in
    record {
      bytes = c.sync.ensures.seen ∙ (more ∙ sym (frames_push 0 n payloads p at));
      count = omega (arith, count, length-append payloads (p ∷ []));
      fit = fit_push payloads p settled.fit (search rules);
      durable = subst (λ b. Only b (g.D.Device.may_leave c.sync.new.self)) (sym c.sync.ensures.seen) c.in_ok-sync.ensures.durable;
    }
