-- The metrics of a run in Prometheus' text format: behind the help and the type of each its samples, a line each.
use Rattle.std.specs.Prelude.{ℕ, List, [], ◌++◌, flat_map, Option, Some, None, codes, decimal}
use Rattle.run_metrics.specs.declared.exposition.Bucket.{Bucket}
use Rattle.run_metrics.specs.declared.exposition.Delays.{Delays}
use Rattle.run_metrics.specs.declared.exposition.Durations.{Durations}
use Rattle.run_metrics.specs.declared.exposition.Figures.{Figures}
use Rattle.run_metrics.specs.declared.exposition.LogFigures.{LogFigures}
use Rattle.run_metrics.specs.declared.exposition.Outcomes.{Outcomes}

-- how many calls the run has
abbrev pub wanted_lines : ℕ → List ℕ
wanted_lines calls =
    codes "# HELP procd_calls_wanted Calls that the run is to make.\n# TYPE procd_calls_wanted gauge\nprocd_calls_wanted "
    ++ (decimal calls ++ codes "\n")

-- how many of them were answered, by outcome
abbrev pub answered_lines : Outcomes → List ℕ
answered_lines o =
    codes "# HELP procd_calls_answered_total Calls that were answered, by outcome.\n# TYPE procd_calls_answered_total counter\nprocd_calls_answered_total{outcome=\"committed\"} "
    ++ (decimal o.committed ++ (codes "\nprocd_calls_answered_total{outcome=\"aborted\"} "
    ++ (decimal o.aborted ++ (codes "\nprocd_calls_answered_total{outcome=\"in_doubt\"} "
    ++ (decimal o.in_doubt ++ (codes "\nprocd_calls_answered_total{outcome=\"blocked\"} "
    ++ (decimal o.blocked ++ (codes "\nprocd_calls_answered_total{outcome=\"refused\"} "
    ++ (decimal o.refused ++ codes "\n")))))))))

-- so many calls took no longer than a bound in microseconds
abbrev pub bucket_line : Bucket → List ℕ
bucket_line b =
    codes "procd_call_duration_seconds_bucket{le=\"" ++ (decimal b.micros ++ (codes "e-6\"} " ++ (decimal b.calls ++ codes "\n")))

abbrev pub bucket_lines : List Bucket → List ℕ
bucket_lines buckets = flat_map bucket_line buckets

-- all of them, and how long they took in all
abbrev pub sum_lines : (calls nanos : ℕ) → List ℕ
sum_lines calls nanos =
    codes "procd_call_duration_seconds_bucket{le=\"+Inf\"} " ++ (decimal calls ++ (codes "\nprocd_call_duration_seconds_sum "
    ++ (decimal nanos ++ (codes "e-9\nprocd_call_duration_seconds_count " ++ (decimal calls ++ codes "\n")))))

-- a histogram of how long calls took
abbrev pub duration_lines : Durations → List ℕ
duration_lines d =
    codes "# HELP procd_call_duration_seconds From a call's admission to its answer.\n# TYPE procd_call_duration_seconds histogram\n"
    ++ (bucket_lines d.buckets.items ++ sum_lines d.calls d.nanos)

-- what delayed calls
abbrev pub delay_lines : Delays → List ℕ
delay_lines d =
    codes "# HELP procd_lock_waits_total Calls that had to wait for a lock.\n# TYPE procd_lock_waits_total counter\nprocd_lock_waits_total "
    ++ (decimal d.lock_waits
    ++ (codes "\n# HELP procd_resends_total Wires that were sent again.\n# TYPE procd_resends_total counter\nprocd_resends_total "
    ++ (decimal d.resends ++ codes "\n")))

abbrev pub sync_lines : Option ℕ → List ℕ
sync_lines None = []
sync_lines (Some syncs) =
    codes "# HELP procd_log_syncs_total Syncs of the log's file.\n# TYPE procd_log_syncs_total counter\nprocd_log_syncs_total "
    ++ (decimal syncs ++ codes "\n")

-- the file that keeps the log, if one does
abbrev pub log_lines : Option LogFigures → List ℕ
log_lines None = []
log_lines (Some log) =
    codes "# HELP procd_log_bytes Bytes of the log's file.\n# TYPE procd_log_bytes gauge\nprocd_log_bytes "
    ++ (decimal log.bytes ++ (codes "\n" ++ sync_lines log.syncs))

abbrev pub exposition : Figures → List ℕ
exposition f = wanted_lines f.wanted ++ answered_lines f.outcomes ++ duration_lines f.durations ++ delay_lines f.delays ++ log_lines f.log
