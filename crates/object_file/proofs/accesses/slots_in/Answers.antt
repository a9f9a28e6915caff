use Rattle.std.proofs.Common.{rules, sym, ◌∙◌}
use Rattle.object_file.proofs.Loops.{slots_further, slots_bad}
use Rattle.object_file.proofs.accesses.slots_in.Goals as goal

pub entries-preserved : goal.entries-preserved
entries-preserved c = let l = c.entries in record {
  said = slots_further c.args.section c.args.count l.place l.slots.items c.push.new.self.items c.in-Some.slot l.rest.now c.split_at.result.0.now c.split_at.result.1.now _
      (search rules) l.invariant.said (search rules) (sym c.slot_in.ensures ∙ c.in-Some.is) c.split_at.ensures.front c.split_at.ensures.back;
  left = search rules;
}

pub returns-in-None-clause-err : goal.returns-in-None-clause-err
returns-in-None-clause-err c =
    let l = c.entries in
    slots_bad c.args.section c.args.count l.place l.slots.items l.rest.now c.split_at.result.0.now _
    (search rules) l.invariant.said (sym c.slot_in.ensures ∙ c.in-None.is) c.split_at.ensures.front
