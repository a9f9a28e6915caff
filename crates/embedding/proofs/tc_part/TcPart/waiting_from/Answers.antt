use Rattle.std.proofs.Common.{◌≡◌, ℕ, ◌≤◌, sym, ap, subst, ◌∙◌}
use Rattle.transactions.specs.declared.Sent.{Sent}
use Rattle.tc_core.specs.Blocked.{is_stranded}
use Rattle.embedding.specs.Frames.{bit, Names}
use Rattle.embedding.specs.Serving.{WaitsAt, NoneWaits, SaysHeld, ShowsWaiting}
use Rattle.embedding.specs.declared.frame.Frame.{Frame}
use Rattle.embedding.specs.declared.tc_part.TcPart.{TcPart}
use Rattle.embedding.proofs.tc_part.TcPart.waiting_from.Goals as goal

shown : (p : TcPart) (f f' : Frame) (place txn proc held : ℕ) (sent : Sent) → f'.place ≡ place → f'.txn ≡ txn → f'.word ≡ proc → f.place ≤ place
    → WaitsAt p.state f.dc place txn proc sent → NoneWaits p.state f.dc f.place place
    → f'.number ≡ sent.number → Names f' sent.op → f'.kind ≡ held → SaysHeld p.requests.items txn held
    → f'.count ≡ bit (is_stranded p.state txn) → ShowsWaiting p f f'
shown p f f' place txn proc held sent is_place is_txn is_proc behind waits first number op kind says stranded = record {
  behind = subst (λ (n : ℕ). f.place ≤ n) (sym is_place) behind;
  sent = sent;
  waits = subst (λ (n : ℕ). WaitsAt p.state f.dc n f'.txn f'.word sent) (sym is_place)
      (subst (λ (n : ℕ). WaitsAt p.state f.dc place n f'.word sent) (sym is_txn)
      (subst (λ (n : ℕ). WaitsAt p.state f.dc place txn n sent) (sym is_proc) waits));
  first = subst (λ (n : ℕ). NoneWaits p.state f.dc f.place n) (sym is_place) first;
  awaited = record {
    number = number;
    op = op;
    held = subst (λ (n : ℕ). SaysHeld p.requests.items n f'.kind) (sym is_txn)
        (subst (λ (n : ℕ). SaysHeld p.requests.items txn n) (sym kind) says);
  };
  stranded = stranded ∙ ap (λ (n : ℕ). bit (is_stranded p.state n)) (sym is_txn);
}

pub returns-clause-done : goal.returns-clause-done
returns-clause-done c = λ _.
    let p = c.args.self.now in let x = c.in-Some in let e = c.put_sent.ensures in let serial = c.serial-serial.ensures in
    shown p c.args.frame.now c.put_sent.new.frame x.opened.place x.opened.txn.serial x.opened.proc c.held.result x.sent
    e.place (e.txn ∙ serial) e.word x.ensures.behind x.ensures.waits x.ensures.first e.number e.op e.kind
    (subst (λ (n : ℕ). SaysHeld p.requests.items n c.held.result) serial c.held.ensures)
    (e.count ∙ (c.bit_of-frame.ensures ∙ ap bit c.is_stranded-stranded.ensures))
