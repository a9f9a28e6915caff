use Rattle.source_lines.proofs.numbers.+leb_within.Given as goal

abbrev pub decreases-leb_within : goal.decreases-leb_within
decreases-leb_within l = l.left
