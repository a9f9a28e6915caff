use Rattle.std.proofs.Common.{◌≡◌, ℕ, List, drop, Some, None, sym, ◌∙◌, ap}
use Rattle.std.specs.Prelude.{max, reverse, slice_get}
use Rattle.history.specs.Redo.{to_redo}
use Rattle.transactions.specs.declared.Site.{Site}
use Rattle.tc_core.specs.Core.{Core}
use Rattle.tc_core.specs.Kept.{core_of}
use Rattle.tc_core.specs.Joining.Scanning.{scan}
use Rattle.tc_core.specs.Redo.{redo_behind}
use Rattle.tc_core.specs.declared.state.Redo.TheVariants.{Send}
use Rattle.tc_core.proofs.StartLemmas.{looks_behind, behind_is}
use Rattle.tc_core.proofs.state.TcState.redo_behind.Goals as goal

pub returns-in-Some-find_done : goal.returns-in-Some-find_done
returns-in-Some-find_done c =
    let h = c.self.inside.book.log.events in
    let core : Core = core_of c.self.inside.procs c.self.inside.book in
    let site = c.in-Some.site in
    let start = c.in-Some.start in
    let r = c.in-Some-redo.redo in
    let n = c.args.number in
    let there : slice_get core.sites c.args.dc ≡ Some site =
    ap (λ (xs : List Site). slice_get xs c.args.dc) (sym c.as_slice.ensures.value) ∙ c.in-Some.ensures.site in
    let begin : slice_get c.self.inside.book.starts.items c.args.dc ≡ Some start =
    ap (λ (xs : List ℕ). slice_get xs c.args.dc) (sym c.as_slice-2.ensures.value) ∙ c.in-Some.ensures.start in
    let whole = looks_behind c.self.inside.procs.codes core.sites c.self.inside.book.starts.items h c.self.invariant.0.kept.legal
    c.self.invariant.0.starts c.args.dc start site r begin there c.in-Some-redo.is n in
    let next : to_redo h c.args.dc (max r.redone n) ≡ Some c.in-Some-find_done.answered = sym whole
    ∙ (ap (λ (k : ℕ). scan c.args.dc k (drop start (reverse h))) (sym c.max-after.ensures)
    ∙ c.in-Some-find_done.ensures.found) in
    ap Send c.wire_of.ensures
    ∙ (sym (behind_is core c.args.dc n site r (Some c.in-Some-find_done.answered) there c.in-Some-redo.is next)
    ∙ ap (λ (x : Core). redo_behind x c.args.dc n) c.self.view_is)

pub returns-in-None : goal.returns-in-None
returns-in-None c =
    let h = c.self.inside.book.log.events in
    let core : Core = core_of c.self.inside.procs c.self.inside.book in
    let site = c.in-Some.site in
    let start = c.in-Some.start in
    let r = c.in-Some-redo.redo in
    let n = c.args.number in
    let there : slice_get core.sites c.args.dc ≡ Some site =
    ap (λ (xs : List Site). slice_get xs c.args.dc) (sym c.as_slice.ensures.value) ∙ c.in-Some.ensures.site in
    let begin : slice_get c.self.inside.book.starts.items c.args.dc ≡ Some start =
    ap (λ (xs : List ℕ). slice_get xs c.args.dc) (sym c.as_slice-2.ensures.value) ∙ c.in-Some.ensures.start in
    let whole = looks_behind c.self.inside.procs.codes core.sites c.self.inside.book.starts.items h c.self.invariant.0.kept.legal
    c.self.invariant.0.starts c.args.dc start site r begin there c.in-Some-redo.is n in
    let next : to_redo h c.args.dc (max r.redone n) ≡ None = sym whole
    ∙ (ap (λ (k : ℕ). scan c.args.dc k (drop start (reverse h))) (sym c.max-after.ensures)
    ∙ c.in-None.ensures.none) in
    sym (behind_is core c.args.dc n site r None there c.in-Some-redo.is next) ∙ ap (λ (x : Core). redo_behind x c.args.dc n) c.self.view_is
