use Rattle.std.proofs.Common.{sym, ◌∙◌, inl, inr}
use Rattle.tc_core.proofs.BlockedLemmas.{serial_at, not_true, not_false}
use Rattle.tc_core.proofs.open_txns.OpenTxns.moves.Goals as goal

pub returns-in-Some-clause-moves : goal.returns-in-Some-clause-moves
returns-in-Some-clause-moves c = λ yes_it.
    record {
      at = record { key = c.in-Some.key; tx = c.at.result.now; found = c.at.ensures; serial = serial_at _ _ _ _ c.in-Some.ensures.found c.at.ensures };
      moves = sym c.is_stranded.ensures ∙ not_true c.is_stranded.result yes_it;
    }

pub returns-in-Some-clause-still : goal.returns-in-Some-clause-still
returns-in-Some-clause-still c = λ no_it.
    inl (
      record { key = c.in-Some.key; tx = c.at.result.now; found = c.at.ensures; serial = serial_at _ _ _ _ c.in-Some.ensures.found c.at.ensures },
      sym c.is_stranded.ensures ∙ not_false c.is_stranded.result no_it,
    )

pub returns-in-None-clause-still : goal.returns-in-None-clause-still
returns-in-None-clause-still c = λ no_it. inr c.in-None.ensures.absent
