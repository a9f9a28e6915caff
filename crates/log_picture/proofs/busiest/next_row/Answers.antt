use Rattle.std.proofs.Common.{map}
use Rattle.std.proofs.lemmas.Option.{slice_get-get_or}
use Rattle.log_picture.specs.Picture.{ways_in}
use Rattle.log_picture.proofs.Listing.{one_more_record}
use Rattle.log_picture.proofs.busiest.next_row.Goals as goal

pub records-preserved : goal.records-preserved
records-preserved c =
    one_more_record (map ways_in c.args.tracks.now) c.args.records.now c.args.rows.now c.records.record-index c.records.best c.better-best.result _
    (slice_get-get_or c.args.records.now c.records.record-index _ c.records-test.true) c.records.invariant c.better-best.ensures
