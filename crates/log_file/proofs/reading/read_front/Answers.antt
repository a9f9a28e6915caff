use Rattle.std.proofs.Common.{rules, ◌≡◌, ◌∷◌, ◌<◌, ◌^◌, sym, ◌∙◌}
use Rattle.frame_file.specs.Reading.{payloads_in}
use Rattle.log_file.specs.Bytes.{based_header_bytes}
use Rattle.log_file.specs.Reading.{IsSayFault}
use Rattle.log_file.specs.Joining.Fields.{IsBaseFault}
use Rattle.log_file.proofs.OpeningLemmas.{base_fault}
use Rattle.log_file.proofs.reading.read_front.Goals as goal

pub returns-in_err-base-clause-fault : goal.returns-in_err-base-clause-fault
returns-in_err-base-clause-fault c =
    let first = c.in-Some.first.now.items in
    let cut : payloads_in c.args.payloads.now ≡ c.in-Some.first.now.items ∷ payloads_in c.in-Some.rest.now = search rules in
    let head : c.deref-2.result.now ≡ based_header_bytes c.args.header.now c.in-Some-2.count = search rules in
    let small : c.in-Some-2.count < 2 ^ 64 = search rules in
    let why : IsBaseFault c.in-Some-2.count (payloads_in c.in-Some.rest.now) c.in_err-base.field-0.0 = search rules in
    let unread : IsSayFault c.args.header.now (payloads_in c.args.payloads.now) c.in_err-base.field-0.0
    = base_fault c.args.header.now (payloads_in c.args.payloads.now) (payloads_in c.in-Some.rest.now) first c.in-Some-2.count c.in_err-base.field-0.0 small cut
    (sym c.deref-2.ensures.value ∙ head) why in
    search rules
