use Rattle.std.proofs.Common.{take}
use Rattle.log_picture.specs.Joining.Tracks.{AreTracks}
use Rattle.log_picture.proofs.picture.tracks_of.Given as goal

abbrev pub invariant-lives : goal.invariant-lives
invariant-lives l = AreTracks l.from l.events (take l.index l.lives) (take l.index l.lanes) l.tracks.items
