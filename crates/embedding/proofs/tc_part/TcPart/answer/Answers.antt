use Rattle.std.proofs.Common.{◌≡◌, true, false, List, refl, subst}
use Rattle.tc_core.specs.Core.{Asking}
use Rattle.embedding.specs.Serving.{HasNoRequest, Unheld, Strange}
use Rattle.embedding.proofs.KeptLemmas.{taken}
use Rattle.embedding.proofs.tc_part.TcPart.answer.Goals as goal

pub returns-in_default-find-clause-why : goal.returns-in_default-find-clause-why
returns-in_default-find-clause-why c = λ _.
    Unheld refl c.in-Some.reply c.in-Some.ensures.some
    (subst (λ (rs : List Asking). HasNoRequest rs c.args.frame.now.txn) c.as_slice.ensures.value c.in_default-find.ensures.absent)

pub returns-in-Ok-clause-done : goal.returns-in-Ok-clause-done
returns-in-Ok-clause-done c = λ _.
    let x = c.in-Some-find in let request = c.swap_remove-request.result in
    record {
      place = x.place;
      request = request;
      kept = taken c.args.self.now.requests.items c.as_slice.result.now c.args.frame.now.txn x.place request
          c.as_slice.ensures.value x.ensures.found x.ensures.inside c.swap_remove-request.ensures.value;
      reply = c.in-Some.reply;
      brought = c.in-Some.ensures.some;
      fit = c.in-Ok.ensures.accepted.0 refl;
      is = c.in-Ok.ensures.ok;
      left = c.swap_remove-request.ensures.items;
    }

pub returns-in-Err-clause-why : goal.returns-in-Err-clause-why
returns-in-Err-clause-why c = λ _.
    let x = c.in-Some-find in let request = c.swap_remove-request.result in
    Strange refl (record {
      place = x.place;
      request = request;
      kept = taken c.args.self.now.requests.items c.as_slice.result.now c.args.frame.now.txn x.place request
          c.as_slice.ensures.value x.ensures.found x.ensures.inside c.swap_remove-request.ensures.value;
      reply = c.in-Some.reply;
      brought = c.in-Some.ensures.some;
      unfit = λ fit. absurd (let bad : false ≡ true = c.in-Err.ensures.accepted.1 fit in cc);
      back =
          let pushed = c.push_reserved.ensures.items in let left = c.swap_remove-request.ensures.items in
          let same = c.in-Err.ensures.back in let it = c.in-Err.request-is in cc;
    })
