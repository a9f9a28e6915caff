use Rattle.dc_links.proofs.Serving.{not_yet, one_more}
use Rattle.dc_links.proofs.seat.perform_request.Goals as goal

pub returns-in-Some-perform : goal.returns-in-Some-perform
returns-in-Some-perform g c =
    let n = c.args.number in
    let dc = c.args.dc.now in
    one_more n dc dc c.perform.new.self c.in-Some.wire.now (not_yet n dc) c.in-Some.ensures c.perform.ensures.store

pub returns-in_default-perform : goal.returns-in_default-perform
returns-in_default-perform g c =
    let n = c.args.number in
    let dc = c.args.dc.now in
    one_more n dc dc c.perform.new.self c.in-Some.wire.now (not_yet n dc) c.in-Some.ensures c.perform.ensures.store
