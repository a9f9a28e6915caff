use Rattle.std.proofs.Common.{rules, ◌≡◌, []}
use Rattle.frame_file.specs.Reading.{payloads_in}
use Rattle.log_file.specs.Reading.{IsSayFault, IsOpenFault}
use Rattle.log_file.proofs.OpeningLemmas.{said_fault, no_frames}
use Rattle.log_file.proofs.reading.read_own.Goals as goal

pub returns-in_err-read_log-clause-fault : goal.returns-in_err-read_log-clause-fault
returns-in_err-read_log-clause-fault c =
    let some : c.args.found.now.payloads.items ≡ [] → ⊥ = search rules in
    let why : IsSayFault c.args.header.now (payloads_in c.args.found.now.payloads.items) c.in_err-read_log.field-0.0 = search rules in
    let unread : IsOpenFault c.args.header.now c.args.bytes.now c.in_err-read_log.field-0.0
    = said_fault c.args.header.now c.args.bytes.now (payloads_in c.args.found.now.payloads.items) c.in_err-read_log.field-0.0 c.requires.reads
    (λ none. some (no_frames c.args.found.now.payloads.items none)) why in
    search rules
