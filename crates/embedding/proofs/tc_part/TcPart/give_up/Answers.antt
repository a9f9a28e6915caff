use Rattle.embedding.proofs.KeptLemmas.{taken}
use Rattle.embedding.proofs.tc_part.TcPart.give_up.Goals as goal

pub returns-clause-done : goal.returns-clause-done
returns-clause-done c = λ _.
    let x = c.in-Some in let request = c.swap_remove-request.result in
    record {
      place = x.place;
      request = request;
      kept = taken c.args.self.now.requests.items c.as_slice.result.now c.args.frame.now.txn x.place request
          c.as_slice.ensures.value x.ensures.found x.ensures.inside c.swap_remove-request.ensures.value;
      number = c.give_up-frame.ensures.number;
      open_here = c.give_up-frame.ensures.open_here;
      elsewhere = c.give_up-frame.ensures.elsewhere;
      left = c.swap_remove-request.ensures.items;
    }
