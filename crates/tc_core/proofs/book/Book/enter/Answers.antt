use Rattle.std.proofs.Common.{◌≡◌, ℕ, ◌+◌, ◌*◌, ◌≤◌, List, [], arith, refl, sym, ◌∙◌, ap, subst}
use Rattle.access_slots.specs.Locks.{mode_in}
use Rattle.semantics.specs.Reach.{AreArguments}
use Rattle.lock_table.specs.Facts.{held_by}
use Rattle.history.specs.Calls.{Call, held, locks_of}
use Rattle.history.specs.Flight.{given, open_numbers}
use Rattle.history.specs.Anew.{begun}
use Rattle.transactions.specs.Reached.{calls_in, decls}
use Rattle.tc_core.specs.Kept.{is_doubted}
use Rattle.tc_core.specs.Running.{Runs}
use Rattle.tc_core.specs.Joining.Writes.{Writes}
use Rattle.transactions.proofs.StandingLemmas.{open-serial}
use Rattle.tc_core.proofs.StartLemmas.{starts_event}
use Rattle.tc_core.proofs.MarkedLemmas.{stay_same, marked-moved}
use Rattle.tc_core.proofs.AdmitLemmas.{kept-admit, keeps_fresh, free_same, nothing_new, admitted-length, wanted_locks}
use Rattle.tc_core.proofs.book.Book.enter.Goals as goal

pub overflow_add-serial : goal.overflow_add-serial
overflow_add-serial c =
    let fit = c.requires.1.room.events_fit in
    let serials = c.requires.1.book.kept.serials_are in
    omega (arith, fit, serials, admitted-length c.requires.0 c.args.self.now.log.events c.requires.1.book.kept.legal)

pub claim-requires-clause-nothing : goal.claim-requires-clause-nothing
claim-requires-clause-nothing c =
    let k = c.requires.1.book.kept in
    nothing_new c.requires.0 c.args.self.now.log.events
    (c.args.self.now.serials + 1) c.args.self.now.locks c.args.self.now.locks k.legal
    (ap (λ (n : ℕ). n + 1) k.serials_are) k.locks_are (λ t r. refl)

pub claim-requires-clause-free : goal.claim-requires-clause-free
claim-requires-clause-free c =
    let m = c.requires.1 in
    let ps = c.requires.0 in
    let call : Call = record { proc = c.args.proc; args = c.args.args } in
    free_same (held (decls ps) c.args.self.now.log.events) (held_by c.args.self.now.locks) (locks_of (decls ps) call) (mode_in c.args.set.now)
    (λ t r. sym (m.book.kept.locks_are t r)) (λ r. sym (wanted_locks ps call c.args.code.now c.args.args c.args.set.now m.called refl m.locks r)) m.free

pub enter-requires-clause-other : goal.enter-requires-clause-other
enter-requires-clause-other c = λ k ty at same.
    let k' = c.requires.1.book.kept in
    let o = k'.places.stands k ty at in
    let late = open-serial c.requires.0 c.args.self.now.log.events k'.legal ty.serial o.s o.is in
    let serials = k'.serials_are in
    absurd (omega (arith, late.1, same, serials))

pub returns-clause-kept : goal.returns-clause-kept
returns-clause-kept c = λ ps m.
    let b = c.args.self.now in
    let q = c.args.code.now in
    let p = c.args.proc in
    let args = c.args.args in
    let call : Call = record { proc = p; args = args } in
    let n : c.calls_of-calls.result ≡ calls_in q = c.calls_of-calls.ensures.calls in
    let g = c.enter.ensures.entered in
    let begins = g.begins in
    let runs = subst (λ (xs : List ℕ). Runs q g.tx xs []) c.as_slice.ensures begins.runs in
    let takes = subst (λ (xs : List ℕ). AreArguments q.decl xs) c.as_slice.ensures begins.takes in
    let ops : g.tx.undo.ops ≡ [] = ap (λ (u : Writes). u.ops) begins.room.0 ∙ m.ops in
    let undo_room : calls_in q ≤ g.tx.undo.room = (let u = ap (λ (u : Writes). u.room) begins.room.0 in let r = m.undo_room in omega (arith, u, r)) in
    let keeps = keeps_fresh q g.tx p args begins.names.1 begins.fresh.0 begins.fresh.1 ops begins.fresh.2 begins.fresh.3 begins.room.1 undo_room runs in
    let room : b.owed + (2 * (5 * calls_in q) + 2) ≤ b.log.room = (let r = m.room.events in omega (arith, r)) in
    let it = kept-admit ps b.log c.push.new.self b.locks c.claim.new.self b.numbers b.txns c.enter.new.self b.serials b.owed b.promised _ p args
    (mode_in c.args.set.now) q g.tx
    m.book.kept m.called.loaded takes m.free m.few room m.room.numbers_fit keeps begins.names.0
    (wanted_locks ps call q args c.args.set.now m.called refl m.locks) c.claim.ensures.held
    g.vacant g.updates c.enter.ensures.len c.push.ensures.events c.push.ensures.room in
    let one : b.owed + (10 * c.calls_of-calls.result + 1) ≡ b.owed + (2 * (5 * calls_in q) + 1) = omega (arith, n) in
    let two : b.promised + 5 * c.calls_of-calls.result ≡ b.promised + 5 * calls_in q = omega (arith, n) in
    let same : given c.push.new.self.events ≡ given b.log.events = ap given c.push.ensures.events in
    let fit = m.room.doubts_fit in
    record {
      kept = rw (one, two) it;
      doubts = omega (arith, fit, c.enter.ensures.len);
      marked = marked-moved _ b.log.events _ _ _ _ _ m.book.marked (omega (arith, same))
          (stay_same b.log.events c.push.new.self.events (ap open_numbers c.push.ensures.events)) g.updates (begins.certain ∙ sym (ap (is_doubted _) begins.fresh.0));
      from = (let still : begun c.push.new.self.events ≡ begun b.log.events = ap begun c.push.ensures.events in
          let was = m.book.from in omega (arith, still, was));
      starts = starts_event _ _ _ _ _ c.push.ensures.events m.book.starts;
    }
