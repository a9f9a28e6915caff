use Rattle.std.proofs.Common.{◌≡◌, ℕ, List, Some, None, sym, ◌∙◌, ap}
use Rattle.std.specs.Prelude.{slice_get}
use Rattle.history.specs.Redo.{to_redo}
use Rattle.transactions.specs.declared.Site.{Site}
use Rattle.tc_core.specs.Core.{Core}
use Rattle.tc_core.specs.Kept.{core_of}
use Rattle.tc_core.specs.Redo.{redo_reply, up_again}
use Rattle.tc_core.specs.declared.state.Redo.TheVariants.{Send}
use Rattle.tc_core.proofs.StartLemmas.{looks, redo_is}
use Rattle.tc_core.proofs.state.TcState.redo_next.Goals as goal

pub returns-in-Some-find_done-clause-reply : goal.returns-in-Some-find_done-clause-reply
returns-in-Some-find_done-clause-reply c =
    let h = c.self.inside.book.log.events in
    let core : Core = core_of c.self.inside.procs c.self.inside.book in
    let site = c.in-Some.site in
    let start = c.in-Some.start in
    let r = c.in-Some-redo.redo in
    let there : slice_get core.sites c.args.dc ≡ Some site =
    ap (λ (xs : List Site). slice_get xs c.args.dc) (sym c.as_slice.ensures.value) ∙ c.in-Some.ensures.site in
    let begin : slice_get c.self.inside.book.starts.items c.args.dc ≡ Some start =
    ap (λ (xs : List ℕ). slice_get xs c.args.dc) (sym c.as_slice-2.ensures.value) ∙ c.in-Some.ensures.start in
    let whole = looks c.self.inside.procs.codes core.sites c.self.inside.book.starts.items h
    c.self.invariant.0.kept.legal c.self.invariant.0.starts c.args.dc start site r begin there c.in-Some-redo.is in
    let next : to_redo h c.args.dc r.redone ≡ Some c.in-Some-find_done.answered = sym whole
    ∙ c.in-Some-find_done.ensures.found in
    ap Send c.wire_of.ensures
    ∙ (sym (redo_is core c.args.dc site r (Some c.in-Some-find_done.answered) there c.in-Some-redo.is next)
    ∙ ap (λ (x : Core). redo_reply x c.args.dc) c.self.view_is)

pub returns-in-None-clause-reply : goal.returns-in-None-clause-reply
returns-in-None-clause-reply c =
    let h = c.self.inside.book.log.events in
    let core : Core = core_of c.self.inside.procs c.self.inside.book in
    let site = c.in-Some.site in
    let start = c.in-Some.start in
    let r = c.in-Some-redo.redo in
    let there : slice_get core.sites c.args.dc ≡ Some site =
    ap (λ (xs : List Site). slice_get xs c.args.dc) (sym c.as_slice.ensures.value) ∙ c.in-Some.ensures.site in
    let begin : slice_get c.self.inside.book.starts.items c.args.dc ≡ Some start =
    ap (λ (xs : List ℕ). slice_get xs c.args.dc) (sym c.as_slice-2.ensures.value) ∙ c.in-Some.ensures.start in
    let whole = looks c.self.inside.procs.codes core.sites c.self.inside.book.starts.items h
    c.self.invariant.0.kept.legal c.self.invariant.0.starts c.args.dc start site r begin there c.in-Some-redo.is in
    let next : to_redo h c.args.dc r.redone ≡ None = sym whole
    ∙ c.in-None.ensures.none in
    sym (redo_is core c.args.dc site r None there c.in-Some-redo.is next) ∙ ap (λ (x : Core). redo_reply x c.args.dc) c.self.view_is

pub returns-in-None-clause-state : goal.returns-in-None-clause-state
returns-in-None-clause-state c =
    let core : Core = core_of c.self.inside.procs c.self.inside.book in
    let there : slice_get core.sites c.args.dc ≡ Some c.in-Some.site =
    ap (λ (xs : List Site). slice_get xs c.args.dc) (sym c.as_slice.ensures.value) ∙ c.in-Some.ensures.site in
    rw (← c.self.view_is, c.from-at.ensures) (sym (ap (up_again core c.args.dc) there))
