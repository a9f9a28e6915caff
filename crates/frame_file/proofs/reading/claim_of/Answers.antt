use Rattle.std.proofs.Common.{◌≡◌, ◌+◌, take, drop, true, false, refl, sym, ◌∙◌, subst, arith, rules}
use Rattle.std.specs.Int.{w64, from_le_bytes}
use Rattle.std.proofs.lemmas.List.{take_rest}
use Rattle.frame_file.specs.Frame.{MayStand, IsHead}
use Rattle.frame_file.proofs.Frames.{none_short}
use Rattle.frame_file.proofs.Heads.{none_lower, none_longer, none_apart}
use Rattle.frame_file.proofs.reading.claim_of.Goals as goal

pub returns-then-bytes-lt-HEAD-clause-none : goal.returns-then-bytes-lt-HEAD-clause-none
returns-then-bytes-lt-HEAD-clause-none c = λ m small p after fits may. none_short m c.args.bytes.now (omega arith) p after fits

pub returns-then-number-first-clause-none : goal.returns-then-number-first-clause-none
returns-then-number-first-clause-none c = none_lower c.args.first c.long-number.result c.args.bytes.now (search rules) c.if-number-first.true

pub returns-then-size-bytes-clause-none : goal.returns-then-size-bytes-clause-none
returns-then-size-bytes-clause-none c = none_longer c.args.first c.long-size.result c.args.bytes.now (search rules) (omega (arith, c.if-size-bytes.true))

pub returns-then-not-may_stand-clause-none : goal.returns-then-not-may_stand-clause-none
returns-then-not-may_stand-clause-none c =
    let bytes = c.args.bytes.now in
    let says : IsHead c.long-number.result c.long-size.result (from_le_bytes w64 (take 8 (drop 16 bytes))) bytes = record {
      fits = omega (arith, c.if-bytes-lt-HEAD.false, c.if-size-bytes.false);
      small = c.long-number.type_inv;
      short = c.long-size.type_inv;
      number_is = search rules;
      size_is = search rules;
      said_is = refl;
    } in
    none_apart c.long-number.result c.long-size.result (from_le_bytes w64 (take 8 (drop 16 bytes))) bytes says c.args.first
    (λ may.
    let yes = c.may_stand.ensures.1 (subst (MayStand c.args.first c.long-number.result) (sym (take_rest bytes (24 + c.long-size.result))) may) in
    let bad : true ≡ false = sym yes ∙ c.if-not-may_stand.true in cc)

pub returns-clause-some : goal.returns-clause-some
returns-clause-some c =
    let bytes = c.args.bytes.now in (
      record {
        fits = omega (arith, c.if-bytes-lt-HEAD.false, c.if-size-bytes.false);
        small = c.long-number.type_inv;
        short = c.long-size.type_inv;
        number_is = search rules;
        size_is = search rules;
        said_is = search rules;
      },
      subst (MayStand c.args.first c.long-number.result) (take_rest bytes (24 + c.long-size.result))
          (c.may_stand.ensures.0 c.if-not-may_stand.false),
    )
