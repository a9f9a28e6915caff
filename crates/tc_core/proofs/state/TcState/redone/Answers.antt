use Rattle.std.proofs.Common.{◌≡◌, ℕ, List, drop, Some, None, true, arith, refl, sym, ◌∙◌, ap, subst, rules}
use Rattle.std.specs.Prelude.{reverse, slice_get}
use Rattle.std.proofs.lemmas.List.{length-reverse}
use Rattle.history.specs.Redo.{to_redo}
use Rattle.history.specs.declared.Answered.{Answered}
use Rattle.transactions.specs.declared.Site.{Site}
use Rattle.transactions.proofs.StandingLemmas.{some_same, none_some}
use Rattle.tc_core.specs.Core.{Core}
use Rattle.tc_core.specs.Kept.{core_of}
use Rattle.tc_core.specs.Redo.{IsRedone}
use Rattle.tc_core.specs.Joining.Scanning.{first_in}
use Rattle.tc_core.proofs.ScanLemmas.{begin_behind}
use Rattle.tc_core.proofs.StartLemmas.{looks, redone_said, starts_set}
use Rattle.tc_core.proofs.state.TcState.redone.Goals as goal

pub returns-in_default-find_done-clause-accepted : goal.returns-in_default-find_done-clause-accepted
returns-in_default-find_done-clause-accepted c =
    let h = c.self.inside.book.log.events in
    let core : Core = core_of c.self.inside.procs c.self.inside.book in
    let site = c.in-Some.site in
    let start = c.in-Some.start in
    let r = c.in-Some-redo.redo in
    let there : slice_get core.sites c.args.dc ≡ Some site =
    ap (λ (xs : List Site). slice_get xs c.args.dc) (sym c.as_slice.ensures.value) ∙ c.in-Some.ensures.site in
    let begin : slice_get c.self.inside.book.starts.items c.args.dc ≡ Some start =
    ap (λ (xs : List ℕ). slice_get xs c.args.dc) (sym c.as_slice-2.ensures.value) ∙ c.in-Some.ensures.start in
    let whole = looks c.self.inside.procs.codes core.sites c.self.inside.book.starts.items h
    c.self.invariant.0.kept.legal c.self.invariant.0.starts c.args.dc start site r begin there c.in-Some-redo.is in
    let next : to_redo h c.args.dc r.redone ≡ None = sym whole
    ∙ (c.in_default-find_done.ensures.none) in (
      λ e. absurd cc,
      λ here. absurd (let is = subst (λ (x : Core). IsRedone x c.args.dc c.args.reply.now)
          (sym c.self.view_is) here in let said =
          redone_said core c.args.dc c.args.reply.now site r None there c.in-Some-redo.is next is in
          none_some _ said.a refl said.is),
    )

pub returns-then-not-is_said-clause-accepted : goal.returns-then-not-is_said-clause-accepted
returns-then-not-is_said-clause-accepted c =
    let h = c.self.inside.book.log.events in
    let core : Core = core_of c.self.inside.procs c.self.inside.book in
    let site = c.in-Some.site in
    let start = c.in-Some.start in
    let r = c.in-Some-redo.redo in
    let there : slice_get core.sites c.args.dc ≡ Some site =
    ap (λ (xs : List Site). slice_get xs c.args.dc) (sym c.as_slice.ensures.value) ∙ c.in-Some.ensures.site in
    let begin : slice_get c.self.inside.book.starts.items c.args.dc ≡ Some start =
    ap (λ (xs : List ℕ). slice_get xs c.args.dc) (sym c.as_slice-2.ensures.value) ∙ c.in-Some.ensures.start in
    let whole = looks c.self.inside.procs.codes core.sites c.self.inside.book.starts.items h
    c.self.invariant.0.kept.legal c.self.invariant.0.starts c.args.dc start site r begin there c.in-Some-redo.is in
    let next : to_redo h c.args.dc r.redone ≡ Some c.in-Some-find_done.answered = sym whole
    ∙ c.in-Some-find_done.ensures.found in (
      λ e. absurd cc,
      λ here.
          let is = subst (λ (x : Core). IsRedone x c.args.dc c.args.reply.now) (sym c.self.view_is) here in
          let said = redone_said core c.args.dc c.args.reply.now site r (Some c.in-Some-find_done.answered) there c.in-Some-redo.is next is in
          let a = some_same c.in-Some-find_done.answered said.a said.is in
          let yes : c.is_said.result ≡ true = c.is_said.ensures.1 (
            said.number ∙ sym (ap (λ (x : Answered). x.number) a),
            said.incarnation,
            said.said ∙ sym (ap (λ (x : Answered). x.said) a),
          ) in
          let no = c.if-not-is_said.true in
          absurd cc,
    )

pub invariant_of-self : goal.invariant_of-self
invariant_of-self c =
    let h = c.self.inside.book.log.events in
    let inside = c.in-Some-find_done.ensures.inside in
    let first : first_in c.args.dc c.in-Some-redo.redo.redone (drop c.in-Some-find_done.place (reverse h)) ≡ Some c.in-Some-find_done.answered
    = c.in-Some-find_done.ensures.there in (
      record {
        kept = c.self.invariant.0.kept;
        from = c.self.invariant.0.from;
        doubts = c.self.invariant.0.doubts;
        marked = c.self.invariant.0.marked;
        starts = starts_set _ _ _ _ _ _ c.self.invariant.0.starts (omega (arith, inside, length-reverse h))
            (begin_behind c.self.inside.procs.codes h c.self.invariant.0.kept.legal c.args.dc c.in-Some-redo.redo.redone c.in-Some-find_done.place c.in-Some-find_done.answered first);
      },
      (search rules),
    )

pub returns-clause-accepted : goal.returns-clause-accepted
returns-clause-accepted c =
    let h = c.self.inside.book.log.events in
    let core : Core = core_of c.self.inside.procs c.self.inside.book in
    let site = c.in-Some.site in
    let start = c.in-Some.start in
    let r = c.in-Some-redo.redo in
    let there : slice_get core.sites c.args.dc ≡ Some site =
    ap (λ (xs : List Site). slice_get xs c.args.dc) (sym c.as_slice.ensures.value) ∙ c.in-Some.ensures.site in
    let begin : slice_get c.self.inside.book.starts.items c.args.dc ≡ Some start =
    ap (λ (xs : List ℕ). slice_get xs c.args.dc) (sym c.as_slice-2.ensures.value) ∙ c.in-Some.ensures.start in
    let whole = looks c.self.inside.procs.codes core.sites c.self.inside.book.starts.items h
    c.self.invariant.0.kept.legal c.self.invariant.0.starts c.args.dc start site r begin there c.in-Some-redo.is in
    let next : to_redo h c.args.dc r.redone ≡ Some c.in-Some-find_done.answered = sym whole
    ∙ c.in-Some-find_done.ensures.found in
    let said = c.is_said.ensures.0 c.if-not-is_said.false in (
      λ e. subst (λ (x : Core). IsRedone x c.args.dc c.args.reply.now) c.self.view_is (record {
        site = site;
        there = there;
        r = r;
        down = c.in-Some-redo.is;
        a = c.in-Some-find_done.answered;
        next = next;
        same_number = said.0;
        same_incarnation = said.1;
        same_answer = said.2;
      }),
      λ is. refl,
    )
