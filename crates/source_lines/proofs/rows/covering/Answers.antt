use Rattle.std.proofs.Common.{rules, ◌≡◌, ◌-◌, ◌∙◌, length, sym}
use Rattle.std.specs.Prelude.{None}
use Rattle.std.proofs.lemmas.List.{nil_from_length}
use Rattle.source_lines.specs.Machine.{around, after}
use Rattle.source_lines.specs.Unit.{shown}
use Rattle.source_lines.proofs.Searching.{step_on, step_cut, no_more}
use Rattle.source_lines.proofs.rows.covering.Goals as goal

pub opcodes-preserved : goal.opcodes-preserved
opcodes-preserved c =
    let l = c.opcodes in
    step_on c.args.place (length c.args.program.now.opcodes.now) l.counter (shown c.args.program.now) (around l.context) (around c.at_operands-context.result)
    l.registers l.before l.rest.now c.in_ok-opcode.operands.now c.in_ok-opcode.opcode.now (after c.in_ok-stepped.stepped) _ _
    c.opcodes-test.true c.in_ok-opcode.ensures.cases.0 c.at_operands-context.ensures (sym c.in_ok-stepped.ensures) (sym c.in-Behind.ensures) l.invariant

pub returns-in-Found : goal.returns-in-Found
returns-in-Found c =
    let l = c.opcodes in
    step_on c.args.place (length c.args.program.now.opcodes.now) l.counter (shown c.args.program.now) (around l.context) (around c.at_operands-context.result)
    l.registers l.before l.rest.now c.in_ok-opcode.operands.now c.in_ok-opcode.opcode.now (after c.in_ok-stepped.stepped) _ _
    c.opcodes-test.true c.in_ok-opcode.ensures.cases.0 c.at_operands-context.ensures (sym c.in_ok-stepped.ensures) (sym c.in-Found.ensures) l.invariant

pub returns-in_err-stepped : goal.returns-in_err-stepped
returns-in_err-stepped c =
    let l = c.opcodes in
    let none : c.from_residual-in_err-stepped.result ≡ None = search rules in
    none ∙ sym (step_cut c.args.place (length c.args.program.now.opcodes.now) l.counter (shown c.args.program.now) (around l.context)
    (around c.at_operands-context.result) l.registers l.before l.rest.now c.in_ok-opcode.operands.now c.in_ok-opcode.opcode.now _
    c.opcodes-test.true c.in_ok-opcode.ensures.cases.0 c.at_operands-context.ensures (sym c.in_err-stepped.ensures) l.invariant)

pub returns-in_err-opcode : goal.returns-in_err-opcode
returns-in_err-opcode c =
    let l = c.opcodes in
    let none : c.from_residual.result ≡ None = search rules in
    none ∙ sym (no_more c.args.place (length c.args.program.now.opcodes.now - l.counter) (shown c.args.program.now) (around l.context) l.registers
    l.before l.rest.now _
    (nil_from_length l.rest.now c.in_err-opcode.ensures.cases) l.invariant)
