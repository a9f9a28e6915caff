use Rattle.std.proofs.Common.{◌≡◌, ℕ, ◌≤◌, Option, sym, ap, subst, ◌∙◌}
use Rattle.transactions.specs.declared.Sent.{Sent}
use Rattle.transactions.specs.Standing.{standing}
use Rattle.tc_core.specs.Blocked.{is_stranded}
use Rattle.tc_core.specs.Recovery.{sent_in}
use Rattle.embedding.specs.Frames.{bit}
use Rattle.embedding.specs.Serving.{IsOpenAt, NoneIsOpen, SaysAwaited, ShowsOpen}
use Rattle.embedding.specs.declared.frame.Frame.{Frame}
use Rattle.embedding.specs.declared.tc_part.TcPart.{TcPart}
use Rattle.embedding.proofs.tc_part.TcPart.open_from.Goals as goal

shown : (p : TcPart) (f f' : Frame) (place txn proc : ℕ) → f'.place ≡ place → f'.txn ≡ txn → f'.word ≡ proc → f.place ≤ place
    → IsOpenAt p.state place txn proc → NoneIsOpen p.state f.place place
    → SaysAwaited p.requests.items txn (sent_in (standing p.state.events txn)) f' → f'.count ≡ bit (is_stranded p.state txn) → ShowsOpen p f f'
shown p f f' place txn proc is_place is_txn is_proc behind is_open first awaited stranded = record {
  behind = subst (λ (n : ℕ). f.place ≤ n) (sym is_place) behind;
  is_open = subst (λ (n : ℕ). IsOpenAt p.state n f'.txn f'.word) (sym is_place)
      (subst (λ (n : ℕ). IsOpenAt p.state place n f'.word) (sym is_txn)
      (subst (λ (n : ℕ). IsOpenAt p.state place txn n) (sym is_proc) is_open));
  first = subst (λ (n : ℕ). NoneIsOpen p.state f.place n) (sym is_place) first;
  awaited = subst (λ (n : ℕ). SaysAwaited p.requests.items n (sent_in (standing p.state.events n)) f') (sym is_txn) awaited;
  stranded = stranded ∙ ap (λ (n : ℕ). bit (is_stranded p.state n)) (sym is_txn);
}

pub returns-clause-done : goal.returns-clause-done
returns-clause-done c = λ _.
    let p = c.args.self.now in let f' = c.put_awaited.new.frame in let txn = c.in-Some.opened.txn.serial in
    shown p c.args.frame.now f' c.in-Some.opened.place txn c.in-Some.opened.proc
    c.put_awaited.ensures.place (c.put_awaited.ensures.txn ∙ c.serial-serial.ensures) c.put_awaited.ensures.word
    c.in-Some.ensures.behind c.in-Some.ensures.open c.in-Some.ensures.first
    (subst (λ (sent : Option Sent). SaysAwaited p.requests.items txn sent f') c.waits_for.ensures
    (subst (λ (n : ℕ). SaysAwaited p.requests.items n c.waits_for.result f') c.serial-serial.ensures c.put_awaited.ensures.says))
    (c.put_awaited.ensures.count ∙ (c.bit_of-frame.ensures ∙ ap bit c.is_stranded-stranded.ensures))
