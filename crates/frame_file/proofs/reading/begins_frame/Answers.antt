use Rattle.std.proofs.Common.{[], inl, refl, arith, rules}
use Rattle.frame_file.proofs.Frames.{none_begins_short, none_begins}
use Rattle.frame_file.proofs.reading.begins_frame.Goals as goal

pub returns-then-bytes-lt-HEAD-clause-none : goal.returns-then-bytes-lt-HEAD-clause-none
returns-then-bytes-lt-HEAD-clause-none c = λ no. none_begins_short c.args.bytes.now (omega arith)

pub returns-in-Some-clause-frame : goal.returns-in-Some-clause-frame
returns-in-Some-clause-frame c = λ n yes. record {
  number = c.long-own.result;
  small = search rules;
  payload = c.in-Some._payload.now;
  fits = c.in-Some.ensures.fits;
  before = [];
  after = c.in-Some._after.now;
  is = c.in-Some.ensures.frame;
  stands = inl refl;
}

pub returns-in-None-clause-none : goal.returns-in-None-clause-none
returns-in-None-clause-none c = λ no. none_begins c.long-own.result c.args.bytes.now (search rules) c.in-None.ensures.none
