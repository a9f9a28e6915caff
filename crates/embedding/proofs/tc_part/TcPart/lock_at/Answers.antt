use Rattle.std.proofs.Common.{◌≡◌, ℕ, List, Some, length, arith, refl, sym, ap, subst, ◌∙◌}
use Rattle.std.specs.Prelude.{slice_get}
use Rattle.std.proofs.lemmas.Option.{slice_get_read}
use Rattle.access_slots.specs.declared.lock.Lock.{Lock}
use Rattle.embedding.specs.Frames.{IsOf}
use Rattle.embedding.specs.Serving.{IsOpenAt, AreItsLocks, Past, ShowsLock, mode_number}
use Rattle.embedding.specs.declared.frame.Frame.{Frame}
use Rattle.embedding.specs.declared.tc_part.TcPart.{TcPart}
use Rattle.embedding.proofs.tc_part.TcPart.lock_at.Goals as goal

shown : (p : TcPart) (f f' : Frame) (txn proc : ℕ) (locks : List Lock) (lock : Lock) → f'.txn ≡ txn → IsOpenAt p.state f.place txn proc
    → AreItsLocks p.state txn locks → slice_get locks f.word ≡ Some lock → IsOf f' lock.«record» → f'.kind ≡ mode_number lock.mode → ShowsLock p f f'
shown p f f' txn proc locks lock is_txn is_open its at named mode = record {
  proc = proc;
  is_open = subst (λ (n : ℕ). IsOpenAt p.state f.place n proc) (sym is_txn) is_open;
  locks = locks;
  its = subst (λ (n : ℕ). AreItsLocks p.state n locks) (sym is_txn) its;
  lock = lock;
  at = at;
  named = named;
  mode = mode;
}

pub returns-in_default-get-clause-none : goal.returns-in_default-get-clause-none
returns-in_default-get-clause-none c = λ _.
    let x = c.in-Some in let past = c.in_default-get.ensures.lookup.3 in
    let same : length c.locks.result.now ≡ length c.in-Some.set = ap length c.locks.ensures.value in
    (refl, Past x.opened.txn.serial x.opened.proc x.set x.ensures.some x.ensures.its (omega (arith, past, same)))

pub returns-clause-done : goal.returns-clause-done
returns-clause-done c = λ _.
    let x = c.in-Some in let e = c.put_lock.ensures in let g = c.in-Some-get.ensures in let word = c.args.frame.now.word in
    let at = slice_get_read c.locks.result.now (length c.locks.result.now) word c.in-Some-get.lock.now refl g.lookup.3.0 g.lookup.1 in
    shown c.args.self.now c.args.frame.now c.put_lock.new.frame x.opened.txn.serial x.opened.proc x.set c.in-Some-get.lock.now
    (e.txn ∙ c.serial-frame.ensures) x.ensures.some x.ensures.its
    (subst (λ (xs : List Lock). slice_get xs word ≡ Some c.in-Some-get.lock.now) c.locks.ensures.value at) e.named e.mode
