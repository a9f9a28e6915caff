use Rattle.std.proofs.Common.{map, Some, None, ◌<◌, length, rules}
use Rattle.log_picture.specs.Picture.{ways_in}
use Rattle.log_picture.proofs.Listing.{in_all, row_more, none_more}
use Rattle.log_picture.proofs.busiest.busiest_of.Goals as goal

pub rows-preserved : goal.rows-preserved
rows-preserved c =
    let all = map ways_in c.args.tracks.now in
    let room : length c.rows.rows.items < 16 = search rules in
    rw c.in_ok-push-in-Some.ensures.items
    (row_more all c.rows.rows.items c.in-Some.row room c.rows.invariant
    (in_all all c.as_slice.result.now c.in_ok-records.records.items c.rows.rows.items c.as_slice-in-rows.result.now (Some c.in-Some.row)
    c.as_slice.ensures.value c.in_ok-records.ensures c.as_slice-in-rows.ensures.value c.in-Some.ensures))

pub returns-in-None : goal.returns-in-None
returns-in-None c =
    let all = map ways_in c.args.tracks.now in
    none_more all c.rows.rows.items c.rows.invariant
    (in_all all c.as_slice.result.now c.in_ok-records.records.items c.rows.rows.items c.as_slice-in-rows.result.now None
    c.as_slice.ensures.value c.in_ok-records.ensures c.as_slice-in-rows.ensures.value c.in-None.ensures)
