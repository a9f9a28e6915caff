use Rattle.std.proofs.Common.{rules, [], None, refl, sym, subst}
use Rattle.frame_file.specs.Reading.{IsSettled}
use Rattle.log_file.specs.Found.{base_in}
use Rattle.log_file.specs.Reading.{IsBegun, IsOpenFault}
use Rattle.log_journal.specs.Keeping.{Begun, Read}
use Rattle.log_journal.proofs.journal.LogJournal.begin.Goals as goal

pub returns-in-Ok-clause-kept : goal.returns-in-Ok-clause-kept
returns-in-Ok-clause-kept g c =
    let s = c.in-Ok.ensures.says in
    let said = s.3 in (
      record {
        base = base_in c.in-Ok.field-0.base;
        starts = said.starts;
        behind = said.behind;
        batches = said.batches;
        are = said.are;
        settled = subst (IsSettled g.D.Device.seen g.D.Device.may_leave c.open.new.self.frames) said.is s.2;
        rows = sym said.printed.prints;
      },
      refl,
    )

pub returns-in-Ok-create-clause-kept : goal.returns-in-Ok-create-clause-kept
returns-in-Ok-create-clause-kept g c = (
  record {
    base = None;
    starts = tt;
    behind = tt;
    batches = [];
    are = tt;
    settled = search rules;
    rows = rw c.new.ensures refl;
  },
  refl,
)

pub returns-in-Ok-clause-log : goal.returns-in-Ok-clause-log
returns-in-Ok-clause-log g c = (let s = c.in-Ok.ensures.says in Read s.0 _ s.1 s.3)

pub returns-in-Ok-create-clause-log : goal.returns-in-Ok-create-clause-log
returns-in-Ok-create-clause-log g c =
    let file = g.D.Device.seen c.args.file.now.frames.device in
    let none : IsBegun c.args.header.now file = subst (IsOpenFault c.args.header.now file) c.in-Err-Empty.field-0-is c.in-Err-Empty.ensures.fault in
    rw c.new.ensures (Begun none.reads refl refl)

pub returns-in-Err-create-clause-fault : goal.returns-in-Err-create-clause-fault
returns-in-Err-create-clause-fault g c = c.not_begun.ensures.fault c.args.header.now (g.D.Device.seen c.args.file.now.frames.device)

pub returns-in-Err-create-clause-refused : goal.returns-in-Err-create-clause-refused
returns-in-Err-create-clause-refused g c = λ is. absurd (c.not_begun.ensures.refused is)
