use Rattle.std.proofs.Common.{◌∙◌, ap, arith, inl, inr, subst, sym, None, ◌≡◌, ℕ}
use Rattle.std.proofs.lemmas.Bool.{cases_eq}
use Rattle.transactions.specs.declared.Site.{Site}
use Rattle.transactions.specs.InFlight.{site_at}
use Rattle.coming_back.specs.Joining.Redoing.{IsRedoneTo}
use Rattle.coming_back.proofs.DoneLemmas.{others_done}
use Rattle.coming_back.proofs.RedoLemmas.{redoes_then}
use Rattle.coming_back.proofs.FullLemmas.{matched_then}
use Rattle.coming_back.proofs.redoing.redo_all.Goals as goal

pub returns-in-Err-clause-redoes : goal.returns-in-Err-clause-redoes
returns-in-Err-clause-redoes c = redoes_then _ _ _ _ _ _ c.loop-dc.invariant.redoes c.redo.ensures.redoes.redoes

pub returns-in-Err-clause-full : goal.returns-in-Err-clause-full
returns-in-Err-clause-full c = λ is matched. c.in-Err.ensures.full is (matched_then _ _ _ _ c.loop-dc.dc c.loop-dc.invariant.redoes matched)

pub loop-dc-preserved : goal.loop-dc-preserved
loop-dc-preserved c = record {
  redoes = redoes_then _ _ _ _ _ _ c.loop-dc.invariant.redoes c.redo.ensures.redoes.redoes;
  done = λ d so. elim (cases_eq d c.loop-dc.dc) [
    | inl here ↦
        subst (λ (n : ℕ). IsRedoneTo c.redo.new.state c.redo.new.dcs n) (sym here)
        (c.in-Ok.ensures.done (subst (λ (n : ℕ). IsRedoneTo c.loop-dc.state c.loop-dc.dcs n) here (c.loop-dc.invariant.done d so)))
    | inr other ↦ others_done c.loop-dc.state c.redo.new.state c.loop-dc.dcs c.redo.new.dcs c.loop-dc.dc d
        c.redo.ensures.redoes other (c.loop-dc.invariant.done d so)
  ];
  up = λ d low. elim (cases_eq d c.loop-dc.dc) [
    | inl here ↦ subst (λ (n : ℕ). (site_at c.redo.new.state.sites n).redo ≡ None) (sym here) c.in-Ok.ensures.up
    | inr other ↦ ap (λ (s : Site). s.redo) (c.redo.ensures.redoes.others d other) ∙ c.loop-dc.invariant.up d (omega (arith, low, other))
  ];
}
