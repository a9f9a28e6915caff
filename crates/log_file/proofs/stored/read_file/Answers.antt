use Rattle.std.proofs.Common.{rules}
use Rattle.frame_file.specs.Reading.{payloads_in}
use Rattle.log_file.specs.Reading.{IsSayFault}
use Rattle.log_file.specs.Stored.{IsFileFault}
use Rattle.log_file.specs.Joining.Fields.{BeginsWith}
use Rattle.log_file.proofs.StoredLemmas.{say_fault, is_stored}
use Rattle.log_file.proofs.stored.read_file.Goals as goal

pub returns-in_err-base-clause-fault : goal.returns-in_err-base-clause-fault
returns-in_err-base-clause-fault c =
    let begins : BeginsWith (payloads_in c.in_ok-found.found.payloads.items) c.in_ok-header.header = search rules in
    let why : IsSayFault c.in_ok-header.header (payloads_in c.in_ok-found.found.payloads.items) c.in_err-base.field-0.0 = search rules in
    let unread : IsFileFault c.args.bytes.now c.in_err-base.field-0.0
    = say_fault c.in_ok-header.header c.args.bytes.now (payloads_in c.in_ok-found.found.payloads.items)
    c.in_err-base.field-0.0 c.in_ok-found.ensures.found.reads begins why in
    search rules

pub returns-clause-says : goal.returns-clause-says
returns-clause-says c =
    is_stored c.args.bytes.now c.in_ok-found.found _ c.in_ok-found.ensures.found (rw c.deref-2.ensures.value at c.in_ok-base.ensures.says)
    (search rules) (search rules)
