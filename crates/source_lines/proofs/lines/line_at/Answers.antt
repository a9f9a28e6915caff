use Rattle.std.proofs.Common.{rules, ◌≡◌, ◌∙◌, length, sym}
use Rattle.std.specs.Prelude.{Some, None}
use Rattle.std.specs.Option.{option_map}
use Rattle.object_file.specs.LineSections.{line_bytes}
use Rattle.source_lines.specs.Lines.{shown_line}
use Rattle.source_lines.proofs.Units.{unit_on, unit_cut}
use Rattle.source_lines.proofs.lines.line_at.Goals as goal

pub units-preserved : goal.units-preserved
units-preserved c =
    let l = c.units in
    let t = c.args.table.now in
    unit_on (length t.lines.now) l.counter c.saturating_sub-begin.result c.saturating_sub.result (line_bytes t) c.args.place l.relocations.now
    c.relocations_from-relocations.result.now l.rest.now c.in_ok-unit.unit.now c.in_ok-unit.after.now None _ c.units-test.true c.in_ok-unit.ensures.some
    (search rules) (search rules) c.relocations_from-relocations.ensures (search rules) l.invariant

pub returns-in-Some : goal.returns-in-Some
returns-in-Some c =
    let l = c.units in
    let t = c.args.table.now in
    unit_on (length t.lines.now) l.counter c.saturating_sub-begin.result c.saturating_sub.result (line_bytes t) c.args.place l.relocations.now
    c.relocations_from-relocations.result.now l.rest.now c.in_ok-unit.unit.now c.in_ok-unit.after.now (Some (shown_line c.in-Some.line)) _
    c.units-test.true c.in_ok-unit.ensures.some
    (search rules) (search rules) c.relocations_from-relocations.ensures (search rules) l.invariant

pub returns-in_err-unit : goal.returns-in_err-unit
returns-in_err-unit c =
    let l = c.units in
    let none : option_map shown_line c.from_residual.result ≡ None = search rules in
    none ∙ sym (unit_cut (length c.args.table.now.lines.now) l.counter (line_bytes c.args.table.now) c.args.place l.relocations.now l.rest.now _
    c.units-test.true c.in_err-unit.ensures.none l.invariant)
