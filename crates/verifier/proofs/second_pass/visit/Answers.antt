use Rattle.std.proofs.Common.{◌≡◌, ℕ, ◌+◌, ◌<◌, length, Option, Some, None, refl, ap, ◌∙◌, arith}
use Rattle.std.specs.Prelude.{slice_get}
use Rattle.std.proofs.lemmas.Option.{slice_get-get_or}
use Rattle.std.proofs.lemmas.Result.{IfOk-weaker}
use Rattle.bpf_encoding.specs.declared.insn.Place.{Place}
use Rattle.bpf_encoding.specs.declared.insn.Place.TheVariants as place
use Rattle.register_kinds.specs.declared.kind.Violation.{Violation}
use Rattle.register_kinds.specs.Arriving.{along_from}
use Rattle.verifier.specs.Joining.Table.{kept, known, HasArrived}
use Rattle.verifier.proofs.Arrived.{arrived_on, known_here, violation_is}
use Rattle.verifier.proofs.second_pass.visit.Goals as goal

pub returns-in-Insn-clause-arrived : goal.returns-in-Insn-clause-arrived
returns-in-Insn-clause-arrived c =
    let at = c.args.at in
    let code = c.args.code.now in
    let decl = c.args.decl.now in
    let i = c.in-Insn.insn in
    let here = c.reach.new.falling in
    let reached = c.reach.new.pending in
    let later = c.step.new.falling in
    let new = c.step.new.pending in
    let stands : slice_get code at ≡ Some (place.Insn i) = slice_get-get_or code at _ c.requires.within ∙ ap (λ (p : Place). Some p) c.in-Insn.is in
    IfOk-weaker c.step.result
    (λ (v : Option Violation).
    v ≡ None → (k : ℕ) → at < k → k < length reached → known (at + 1) later new k ≡ along_from decl at (Some (place.Insn i)) here k (kept reached k))
    (λ (v : Option Violation). v ≡ None → HasArrived decl code (at + 1) later new)
    (λ v ways none.
    arrived_on decl code at (Some (place.Insn i)) c.args.falling.now here later c.args.pending.now reached new c.requires.within stands
    c.requires.arrived c.reach.ensures.here c.reach.ensures.others (c.step.ensures.long ∙ c.reach.ensures.long)
    (λ k after inside. ways none k after (omega (arith, inside, c.reach.ensures.long, c.requires.arrived.long))))
    c.step.ensures.ways

pub returns-in-Second-clause-violation : goal.returns-in-Second-clause-violation
returns-in-Second-clause-violation c =
    let at = c.args.at in
    let code = c.args.code.now in
    let decl = c.args.decl.now in
    let here = c.reach.new.falling in
    let stands : slice_get code at ≡ Some place.Second = slice_get-get_or code at _ c.requires.within ∙ ap (λ (p : Place). Some p) c.in-Second.is in
    let is = known_here decl code at c.args.falling.now here c.args.pending.now c.requires.within c.requires.arrived c.reach.ensures.here in
    violation_is decl code at (Some place.Second) here stands is

pub returns-in-Second-clause-arrived : goal.returns-in-Second-clause-arrived
returns-in-Second-clause-arrived c = λ none.
    let at = c.args.at in
    let code = c.args.code.now in
    let decl = c.args.decl.now in
    let here = c.reach.new.falling in
    let reached = c.reach.new.pending in
    let stands : slice_get code at ≡ Some place.Second = slice_get-get_or code at _ c.requires.within ∙ ap (λ (p : Place). Some p) c.in-Second.is in
    arrived_on decl code at (Some place.Second) c.args.falling.now here None c.args.pending.now reached reached c.requires.within stands
    c.requires.arrived c.reach.ensures.here c.reach.ensures.others c.reach.ensures.long (λ k after inside. refl)
