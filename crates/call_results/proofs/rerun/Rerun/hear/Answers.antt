use Rattle.std.proofs.Common.{◌≡◌, false, sym, ◌∙◌, ap}
use Rattle.std.specs.Prelude.{slice_get}
use Rattle.access_slots.specs.Access.{is_no_room}
use Rattle.call_results.specs.declared.rerun.Rerun.{Rerun}
use Rattle.call_results.proofs.Along.{along_told, may_hear}
use Rattle.call_results.proofs.rerun.Rerun.hear.Goals as goal

pub returns-in-Ask-clause-along : goal.returns-in-Ask-clause-along
returns-in-Ask-clause-along c = λ s m.
    let r = c.args.self.now in
    let ps = c.args.procs.now.codes in
    let said = c.args.said.now in
    let a = m.along in
    let room : is_no_room said ≡ false = sym c.is_no_room.ensures ∙ c.if-is_no_room.false in
    let rest = c.resume.ensures.rest in
    along_told ps r c.resume.new.self s said m c.if-self.false room (ap (λ (x : Rerun). x.proc) rest) (ap (λ (x : Rerun). x.is_open) rest)
    (ap (λ (x : Rerun). x.is_full) rest)
    (c.resume.ensures.runs a.q s.call.args s.answers (ap (slice_get ps) a.proc ∙ a.loaded) (may_hear ps r s said c.in-Ask.op m c.if-self.false c.in-Ask.is))
