use Rattle.embedding.proofs.tc_part.TcPart.known.Goals as goal

pub returns : goal.returns
returns c =
    let s = c.args.self.now.state in let k = c.known.ensures in
    record {
      legal = k.legal;
      covered = c.all_in_flight_covered.ensures s.procs s.events s.sites k.good k.legal;
      locked = c.all_covered.ensures s.procs s.events k.good k.legal;
      apart = c.none_in_flight_conflict.ensures s.procs s.events s.sites k.good k.legal;
    }
