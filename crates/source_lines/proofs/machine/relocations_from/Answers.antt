use Rattle.std.proofs.Common.{rules, tests, ◌≡◌, ◌-◌, ◌/◌, length}
use Rattle.std.specs.Prelude.{true, false, nat_lt}
use Rattle.object_file.specs.Elf.{long_at}
use Rattle.source_lines.proofs.Relocations.{relocations_on, relocations_cut, relocations_there}
use Rattle.source_lines.proofs.machine.relocations_from.Goals as goal

pub relocations-preserved : goal.relocations-preserved
relocations-preserved c =
    let whole : nat_lt (length c.relocations.rest.now) 16 ≡ false = search (rules, tests) in
    let before : nat_lt (long_at 0 c.relocations.rest.now) c.args.place ≡ true = search (rules, tests) in
    relocations_on (length c.args.relocations.now / 16) c.relocations.counter c.args.place c.relocations.rest.now c.split_at.result.1.now _
    c.relocations-test.true whole before c.split_at.ensures.back c.relocations.invariant

pub returns-then-rest-lt-RELOCATION : goal.returns-then-rest-lt-RELOCATION
returns-then-rest-lt-RELOCATION c =
    let cut : nat_lt (length c.relocations.rest.now) 16 ≡ true = search (rules, tests) in
    relocations_cut (length c.args.relocations.now / 16 - c.relocations.counter) c.args.place c.relocations.rest.now _ cut c.relocations.invariant

pub returns-then-long_at-place : goal.returns-then-long_at-place
returns-then-long_at-place c =
    let whole : nat_lt (length c.relocations.rest.now) 16 ≡ false = search (rules, tests) in
    let there : nat_lt (long_at 0 c.relocations.rest.now) c.args.place ≡ false = search (rules, tests) in
    relocations_there (length c.args.relocations.now / 16 - c.relocations.counter) c.args.place c.relocations.rest.now _ whole there c.relocations.invariant
