use Rattle.std.proofs.Common.{ℕ, List, [], ◌∷◌, OnOk, subst, ◌∙◌}
use Rattle.frame_file.specs.Device.{Only, LeavesOnly}
use Rattle.frame_file.specs.Reading.{IsSettled, IsBeforeOrAfter}
use Rattle.frame_file.proofs.Torns.{whole}
use Rattle.log_file.specs.Bytes.{header_bytes}
use Rattle.log_file.proofs.MomentLemmas.{unmoved}
use Rattle.log_file.proofs.file.LogFile.create.Goals as goal

pub returns-in_err-payload-clause-any_moment : goal.returns-in_err-payload-clause-any_moment
returns-in_err-payload-clause-any_moment g c settled =
    let device = c.args.self.now.frames.device in
    let only = subst (λ f. Only f (g.D.Device.may_leave device)) settled.bytes settled.durable in
    unmoved g.D.Device.moment g.D.Device.left_since device _
    (λ f left. whole [] (header_bytes c.args.header.now) settled.fit f
    (only f (g.met.D.Device.only_now device f left)))

pub returns-clause-acknowledged : goal.returns-clause-acknowledged
returns-clause-acknowledged g c settled =
    subst (λ (p : List ℕ). OnOk c.append.result (IsSettled g.D.Device.seen g.D.Device.may_leave c.append.new.self
    (p ∷ []))) (c.deref.ensures.value ∙ c.in_ok-payload.ensures) (c.append.ensures.acknowledged [] settled)

pub returns-clause-any_moment : goal.returns-clause-any_moment
returns-clause-any_moment g c settled =
    subst (λ (p : List ℕ). LeavesOnly g.D.Device.moment g.D.Device.left_since c.args.self.now.frames.device
    c.append.new.self.device (IsBeforeOrAfter [] p)) (c.deref.ensures.value ∙ c.in_ok-payload.ensures)
    (c.append.ensures.any_moment [] settled)
