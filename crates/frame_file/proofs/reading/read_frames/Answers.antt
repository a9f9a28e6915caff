use Rattle.std.proofs.Common.{◌≡◌, ℕ, length, ap, subst, arith, rules, length-append}
use Rattle.frame_file.specs.Frame.{framed, frames_from, NoFrame, IsEnd}
use Rattle.frame_file.specs.Reading.{payloads_in}
use Rattle.frame_file.proofs.Frames.{length-framed}
use Rattle.frame_file.proofs.Readings.{read_on, fit_on, count_payloads}
use Rattle.frame_file.proofs.reading.read_frames.Goals as goal

pub frames-smaller : goal.frames-smaller
frames-smaller c =
    let n = c.len.result in
    let p = c.in-Some.payload.now in
    let long = ap length c.in-Some.ensures.frame in
    omega (arith, long, length-append (framed n p) c.in-Some.after.now, length-framed n p)

pub frames-preserved : goal.frames-preserved
frames-preserved c =
    let vecs = c.frames.payloads.items in
    let v = c.in_ok-from_slice.field-0 in
    record {
      so_far = read_on c.args.bytes.now c.frames.rest.now c.in-Some.after.now c.in-Some.payload.now c.len.result vecs
          c.push.new.self.items v c.frames.invariant.so_far c.in-Some.ensures.frame (search rules) (search rules)
          (search rules);
      fit = fit_on c.in-Some.payload.now vecs c.push.new.self.items v c.frames.invariant.fit c.in-Some.ensures.fits (search rules) (search rules);
    }

pub returns-then-not-ends-clause-fault : goal.returns-then-not-ends-clause-fault
returns-then-not-ends-clause-fault c =
    let vecs = c.frames.payloads.items in
    let many = count_payloads vecs in
    let count : c.len.result ≡ length (payloads_in vecs) = omega (arith, many) in
    record {
      payloads = payloads_in vecs;
      reads = record {
        rest = c.frames.rest.now;
        is = c.frames.invariant.so_far;
        fit = c.frames.invariant.fit;
        ends = subst (λ (k : ℕ). NoFrame k c.frames.rest.now) count c.in_default.ensures.none;
      };
      number_is = omega (arith, many);
      no_end = c.in_ok-ends.ensures.none c.if-not-ends.true;
    }

pub returns-clause-found : goal.returns-clause-found
returns-clause-found c =
    let vecs = c.frames.payloads.items in
    let many = count_payloads vecs in
    let count : c.len.result ≡ length (payloads_in vecs) = omega (arith, many) in
    record {
      reads = record {
        rest = c.frames.rest.now;
        is = c.frames.invariant.so_far;
        fit = c.frames.invariant.fit;
        ends = subst (λ (k : ℕ). NoFrame k c.frames.rest.now) count c.in_default.ensures.none;
      };
      end = (let long = ap length c.frames.invariant.so_far in omega (arith, long, length-append (frames_from 0 (payloads_in vecs)) c.frames.rest.now));
      ends = subst (λ (k : ℕ). IsEnd k c.frames.rest.now) (omega (arith, count, many)) (c.in_ok-ends.ensures.end c.if-not-ends.false);
    }
