use Rattle.std.proofs.Common.{arith, ◌+◌, ◌∙◌, sym, ap}
use Rattle.std.specs.Str.Lines.{lines}
use Rattle.std.proofs.lemmas.List.{length_push}
use Rattle.std.proofs.lemmas.Iterator.Consumers.{YieldsList-turn, YieldsList-end}
use Rattle.std.proofs.lemmas.Iterator.Splits.{YieldsList-from_lines}
use Rattle.scripts.specs.Reading.{taken, stopped}
use Rattle.scripts.proofs.ReadingLemmas.{going, stopping, ending}
use Rattle.scripts.proofs.reading.read_lines.Goals as goal

pub lines-preserved : goal.lines-preserved
lines-preserved c =
    let i = c.lines.invariant in
    let t = YieldsList-turn (YieldsList-from_lines c.args.text.now (cc)) c.lines.yielded _ c.lines.yielded_by _ _ c.in-Some.line c.in-Some.is c.next.ensures.steps in
    let n = length_push c.lines.yielded c.in-Some.line in
    let same = ap (taken c.args.command c.lines.reading (c.lines.number + 1)) (sym c.as_bytes.ensures.value) in
    (tt, tt, omega (arith, i.2, n), going c.args.command (lines c.args.text.now) c.lines.number _ c.in-Some.line.now c.lines.reading _ _ i.2 t (same ∙ c.in-Ok.ensures.ok) i.3)

pub returns-in-Err-Fault : goal.returns-in-Err-Fault
returns-in-Err-Fault c =
    let i = c.lines.invariant in
    let t = YieldsList-turn (YieldsList-from_lines c.args.text.now (cc)) c.lines.yielded _ c.lines.yielded_by _ _ c.in-Some.line c.in-Some.is c.next.ensures.steps in
    let same = ap (taken c.args.command c.lines.reading (c.lines.number + 1)) (sym c.as_bytes.ensures.value) in
    let is = rw c.in-Err-Fault.field-0-is at c.in-Err-Fault.ensures.err in
    let told = rw c.in-Err-Fault.field-0-is at c.parsed.ensures in
    told
    ∙ stopping c.args.command (lines c.args.text.now) c.lines.number _ c.in-Some.line.now c.lines.reading c.take.new.self.contents c.in-Err-Fault.fault _ i.2 t
    (same ∙ is) c.in-Err-Fault.ensures.kept i.3

pub returns : goal.returns
returns c =
    let i = c.lines.invariant in
    let t = YieldsList-end (YieldsList-from_lines c.args.text.now (cc)) c.lines.yielded _ c.lines.yielded_by _ _ c.in-None.is c.next.ensures.steps in
    c.parsed-2.ensures ∙ ap (stopped c.lines.reading.contents c.lines.number) c.end_fault-fault.ensures
    ∙ ending c.args.command (lines c.args.text.now) c.lines.number _ c.lines.reading _ i.2 t.1 i.3
