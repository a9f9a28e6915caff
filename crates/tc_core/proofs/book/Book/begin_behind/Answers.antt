use Rattle.std.proofs.Common.{refl}
use Rattle.tc_core.proofs.Anewing.{book-anew}
use Rattle.tc_core.proofs.book.Book.begin_behind.Goals as goal

pub returns-clause-kept : goal.returns-clause-kept
returns-clause-kept c = λ ps is none few.
    book-anew ps c.args.self.now _ c.args.admitted c.args.given is none few c.requires.few c.begin_anew.ensures.events refl refl c.begin_behind.ensures.last c.begin_behind.ensures.pending
    refl refl refl c.begin_behind-2.ensures.numbers c.begin_behind-2.ensures.from c.begin_behind-2.ensures.room refl c.begin_all.ensures
