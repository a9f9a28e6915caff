use Rattle.std.proofs.Common.{arith, ◌≡◌, ◌++◌, ◌∷◌, ℕ, List, [], drop, reverse, length, subst}
use Rattle.std.specs.Prelude.{◌%◌}
use Rattle.log_file.specs.Bytes.{batch_bytes}
use Rattle.frame_file.specs.Device.{LeavesOnly}
use Rattle.frame_file.specs.Reading.{IsSettled, IsBeforeOrAfter}
use Rattle.log_journal.proofs.Keeping.{of_rows, written_push, unwritten_leaves, written_leaves, fails}
use Rattle.log_journal.proofs.journal.LogJournal.keep_from.Goals as goal

pub returns-in-Ok-append-clause-kept : goal.returns-in-Ok-append-clause-kept
returns-in-Ok-append-clause-kept g c = λ before was.
    let seen = g.D.Device.seen in
    let leaves = g.D.Device.may_leave in
    let rows = c.in-Ok.rows.items in
    let whole : length rows % 96 ≡ 0 = omega (arith, c.in-Ok.ensures.rows) in
    written_push seen leaves c.args.self.now.header c.args.self.now.file c.append.new.self before (drop c.args.place (reverse c.args.log.now.events)) rows
    was c.in-Ok.ensures.bytes whole (λ payloads settled.
    subst (λ (r : List ℕ). IsSettled seen leaves c.append.new.self.frames (payloads ++ batch_bytes (of_rows r) ∷ [])) c.deref.ensures.value
    (c.in-Ok-append.ensures.acknowledged payloads settled))

pub returns-in_default-clause-any_moment : goal.returns-in_default-clause-any_moment
returns-in_default-clause-any_moment g c = λ before was.
    unwritten_leaves g.D.Device.seen g.D.Device.may_leave c.args.self.now.header c.args.self.now.file before
    (drop c.args.place (reverse c.args.log.now.events)) was g.D.Device.moment
    g.D.Device.left_since g.met.D.Device.only_now

pub returns-in-Ok-append-clause-any_moment : goal.returns-in-Ok-append-clause-any_moment
returns-in-Ok-append-clause-any_moment g c = λ before was.
    let rows = c.in-Ok.rows.items in
    let device = c.args.self.now.file.frames.device in
    let new = c.append.new.self.frames.device in
    written_leaves g.D.Device.seen g.D.Device.may_leave c.args.self.now.header c.args.self.now.file before
    (drop c.args.place (reverse c.args.log.now.events)) was g.D.Device.moment
    g.D.Device.left_since g.met.D.Device.only_now new rows c.in-Ok.ensures.bytes (λ payloads settled.
    subst (λ (r : List ℕ). LeavesOnly g.D.Device.moment g.D.Device.left_since device new
    (IsBeforeOrAfter payloads (batch_bytes (of_rows r)))) c.deref.ensures.value
    (c.in-Ok-append.ensures.any_moment payloads settled))
