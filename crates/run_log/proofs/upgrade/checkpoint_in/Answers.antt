use Rattle.std.proofs.Common.{rules, ◌≡◌, ◌∙◌, length, refl, sym, ap}
use Rattle.log_file.specs.Found.{base_in}
use Rattle.run_log.proofs.upgrade.checkpoint_in.Goals as goal

pub returns : goal.returns
returns c =
    let s = c.in-Ok.stored in
    let whole : s.unfinished ≡ 0 = search rules in
    let alone : length s.log.events ≡ 1 = search rules in
    record {
      s = s;
      stored = c.in-Ok.ensures.says;
      whole = whole;
      header_is = refl;
      base_is = ap base_in c.in-Some.is;
      log_is = refl;
      alone = alone;
      there = c.if-header-own.false;
      same = sym c.is_same_session.ensures ∙ c.if-not-is_same_session.false;
    }
