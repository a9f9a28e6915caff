use Rattle.std.proofs.Common.{◌≡◌, ◌∙◌, false, true, List, Option, Some, None, arith, refl, sym, ap}
use Rattle.std.specs.Prelude.{count_by, is_some}
use Rattle.slab.specs.Slab.{slab_len}
use Rattle.history.specs.Anew.{begun}
use Rattle.tc_core.specs.declared.transaction.Tx.{Tx}
use Rattle.tc_core.proofs.DoubtLemmas.{once_none}
use Rattle.tc_core.proofs.StartLemmas.{starts_none}
use Rattle.tc_core.proofs.KeptLemmas.{kept-none}
use Rattle.tc_core.proofs.book.Book.new.Goals as goal

pub returns-clause-kept : goal.returns-clause-kept
returns-clause-kept c = λ codes good. record {
  kept = kept-none codes _ _ _ _ c.new-4.ensures c.new-2.ensures.held c.new-3.ensures.last c.new-3.ensures.pending c.new.ensures good;
  from = c.new-5.ensures.from ∙ sym (ap begun c.new-4.ensures);
  doubts = (let none : slab_len c.new.result ≡ 0 = ap (λ (xs : List (Option Tx)). count_by is_some xs) c.new.ensures in omega (arith, none));
  marked = record {
    marks = λ key tx at. absurd (let none : None ≡ Some tx = rw c.new.ensures at at in cc);
    early = λ n late. rw c.new-5.ensures.numbers refl;
    once = rw (c.new-5.ensures.numbers, c.new-4.ensures) (once_none 0);
    open_yet = λ n held. absurd (let bad : false ≡ true = rw c.new-5.ensures.numbers at held in cc);
  };
  starts = rw (c.in_ok-sites.ensures, c.in_ok-starts.ensures, c.new-4.ensures) (starts_none c.args.dcs);
}
