use Rattle.std.proofs.Common.{rules, arith, ◌≡◌, ◌<◌, [], length, take, drop, sym, ◌∙◌, ap, subst}
use Rattle.std.proofs.lemmas.List.{length-drop}
use Rattle.log_file.specs.Bytes.{Rows, part_bytes}
use Rattle.log_file.proofs.WritingLemmas.{Wrote, none_yet, moved, one_more, all_written, no_rows}
use Rattle.log_file.proofs.file.LogFile.append_base.Goals as goal

pub parts-init : goal.parts-init
parts-init g c =
    let d = g.D.Device in
    record {
      wrote = λ before settled. none_yet d.seen d.may_leave d.moment d.left_since c.args.self.now.frames before c.args.base.now
          (g.met.D.Device.only_now c.args.self.now.frames.device) settled;
      later = omega arith;
    }

pub parts-preserved : goal.parts-preserved
parts-preserved g c =
    let d = g.D.Device in
    let rest = c.parts.rest.now in
    let some : 0 < length c.parts.rest.now = search rules in
    let part : c.split_part.result.0.now ≡ take 4096 c.parts.rest.now = c.split_part.ensures.part in
    let behind : c.split_part.result.1.now ≡ drop 4096 c.parts.rest.now = c.split_part.ensures.rest in
    let payload : c.deref.result.now ≡ part_bytes (take 4096 c.parts.rest.now) = c.deref.ensures.value ∙ (c.in_ok-payload.ensures ∙ ap part_bytes part) in
    let later = c.parts.invariant.later in
    let more = c.append.ensures.later in
    record {
      wrote = λ before settled.
          (let was = c.parts.invariant.wrote before settled in
          subst (λ (r : Rows). Wrote d.seen d.may_leave d.moment d.left_since c.args.self.now.frames c.append.new.self before c.args.base.now r) (sym behind)
          (one_more d.seen d.may_leave d.moment d.left_since c.args.self.now.frames c.parts.self.frames
          c.append.new.self before c.args.base.now rest c.deref.result.now was some payload
          (c.append.ensures.any_moment _ was.settled) (c.in_ok-append.ensures.acknowledged _ was.settled)));
      later = omega (arith, later, more);
    }

pub parts-smaller : goal.parts-smaller
parts-smaller g c =
    let some : 0 < length c.parts.rest.now = search rules in
    let behind : c.split_part.result.1.now ≡ drop 4096 c.parts.rest.now = c.split_part.ensures.rest in
    let shorter = ap length behind in
    omega (arith, some, shorter, length-drop 4096 c.parts.rest.now)

pub returns-in_err-payload-clause-any_moment : goal.returns-in_err-payload-clause-any_moment
returns-in_err-payload-clause-any_moment g c before after last settled = (c.parts.invariant.wrote before settled).left last after

pub returns-in_err-append-clause-any_moment : goal.returns-in_err-append-clause-any_moment
returns-in_err-append-clause-any_moment g c before after last settled =
    let d = g.D.Device in
    let some : 0 < length c.parts.rest.now = search rules in
    let part : c.split_part.result.0.now ≡ take 4096 c.parts.rest.now = c.split_part.ensures.part in
    let payload : c.deref.result.now ≡ part_bytes (take 4096 c.parts.rest.now) = c.deref.ensures.value ∙ (c.in_ok-payload.ensures ∙ ap part_bytes part) in
    let was = c.parts.invariant.wrote before settled in
    moved d.seen d.may_leave d.moment d.left_since c.args.self.now.frames c.parts.self.frames c.append.new.self before
    c.args.base.now c.parts.rest.now c.deref.result.now was some payload
    (c.append.ensures.any_moment _ was.settled) last after

pub returns-in_err-append-clause-failed : goal.returns-in_err-append-clause-failed
returns-in_err-append-clause-failed g c is =
    let later = c.parts.invariant.later in
    let less = c.append.ensures.failed (search rules) in
    omega (arith, later, less)

pub returns-clause-acknowledged : goal.returns-clause-acknowledged
returns-clause-acknowledged g c before settled =
    let d = g.D.Device in
    let zero : length c.parts.rest.now ≡ 0 = search rules in
    let none : c.parts.rest.now ≡ [] = no_rows c.parts.rest.now zero in
    all_written d.seen d.may_leave d.moment d.left_since c.args.self.now.frames c.parts.self.frames before
    c.args.base.now c.parts.rest.now (c.parts.invariant.wrote before settled) none

pub returns-clause-any_moment : goal.returns-clause-any_moment
returns-clause-any_moment g c before after last settled = (c.parts.invariant.wrote before settled).left last after
