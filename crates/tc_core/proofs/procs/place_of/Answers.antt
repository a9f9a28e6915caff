use Rattle.std.proofs.Common.{◌∙◌, sym}
use Rattle.std.specs.Str.{bytes_eq}
use Rattle.std.specs.String.{string_bytes}
use Rattle.indexmap.specs.IndexMap.{keys}
use Rattle.tc_core.proofs.ListLemmas.{position-map}
use Rattle.tc_core.proofs.procs.place_of.Goals as goal

pub returns-clause-place : goal.returns-clause-place
returns-clause-place c = c.get_index_of.ensures.index ∙ sym (position-map string_bytes (bytes_eq c.args.name.now) (keys c.args.by_name.now))
