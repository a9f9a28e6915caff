use Rattle.std.proofs.Common.{◌≡◌, ℕ, true, false, arith, refl, sym, ◌∙◌, ap, subst, inl, inr}
use Rattle.std.proofs.lemmas.Bool.{cases_eq}
use Rattle.std.proofs.lemmas.Option.{slice_get_within}
use Rattle.tc_core.specs.Core.{Core}
use Rattle.tc_core.specs.Redo.{IsRedone, after_redone}
use Rattle.tc_world.proofs.deliver.redone_somewhere.Goals as goal

pub returns-in-Ok-clause-redone : goal.returns-in-Ok-clause-redone
returns-in-Ok-clause-redone c =
    let same = c.loop-dc.invariant.0 in (
      subst (λ (s : Core). IsRedone s c.loop-dc.dc c.args.reply.now) same (c.in-Ok.ensures.accepted.0 refl),
      c.in-Ok.ensures.ok ∙ ap (λ (s : Core). after_redone s c.loop-dc.dc c.args.reply.now.number) same,
    )

pub loop-dc-preserved : goal.loop-dc-preserved
loop-dc-preserved c =
    let same = c.loop-dc.invariant.0 in (
      c.in-Err.ensures.err ∙ same,
      λ d below is. elim (cases_eq d c.loop-dc.dc) [
        | inl here ↦
            let mine : IsRedone c.loop-dc.state c.loop-dc.dc c.args.reply.now
            = subst (λ (s : Core). IsRedone s c.loop-dc.dc c.args.reply.now) (sym same)
            (subst (λ (i : ℕ). IsRedone c.args.state.now i c.args.reply.now) here is) in
            let bad : false ≡ true = c.in-Err.ensures.accepted.1 mine in
            absurd cc
        | inr other ↦ c.loop-dc.invariant.1 d (omega (arith, below, other)) is
      ],
    )

pub returns-clause-none : goal.returns-clause-none
returns-clause-none c = λ d is.
    let few = slice_get_within c.args.state.now.sites d is.site is.there in
    let many = c.known.ensures.sites in
    let dcs = c.dcs-dc-end.ensures in
    let end = c.loop-dc-test.false in
    c.loop-dc.invariant.1 d (omega (arith, few, many, dcs, end)) is
