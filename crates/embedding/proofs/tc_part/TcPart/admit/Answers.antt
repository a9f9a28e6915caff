use Rattle.std.proofs.Common.{ℕ, List, subst}
use Rattle.tc_core.specs.Admission.{IsRefused}
use Rattle.embedding.specs.Frames.{args_in}
use Rattle.embedding.specs.Serving.{Refused}
use Rattle.embedding.proofs.tc_part.TcPart.admit.Goals as goal

pub returns-clause-why : goal.returns-clause-why
returns-clause-why c = λ _.
    let state = c.args.self.now.state in let why = c.in-Err-admit.refusal in let same = c.in-Ok.ensures.call in
    Refused c.in-Ok.ensures.few (record {
      why = why;
      is = subst (λ (p : ℕ). IsRefused state (record { proc = p; args = args_in c.args.frame.now }) why) same.0
          (subst (λ (xs : List ℕ). IsRefused state (record { proc = c.in-Ok.call.proc; args = xs }) why) same.1 c.in-Err-admit.ensures.refused);
      told = c.put_refusal.ensures.told;
    })
