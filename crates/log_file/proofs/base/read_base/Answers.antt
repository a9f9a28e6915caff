use Rattle.std.proofs.Common.{rules, ◌≡◌, ◌-◌, ◌∷◌, min, length}
use Rattle.frame_file.specs.Reading.{payloads_in}
use Rattle.log_file.specs.Joining.Fields.{IsAdded}
use Rattle.log_file.proofs.BaseLemmas.{further}
use Rattle.log_file.proofs.base.read_base.Goals as goal

pub parts-preserved : goal.parts-preserved
parts-preserved c =
    let size : c.min-size.result ≡ min (c.args.count - length c.parts.base.items) 4096 = search rules in
    let cut : payloads_in c.parts.rest.now ≡ c.in-Some.payload.now.items ∷ payloads_in c.in-Some.after.now = search rules in
    let added : IsAdded c.min-size.result c.in-Some.payload.now.items c.parts.base.items c.add_part.new.base.items = search rules in
    record {
      so_far = further c.args.count c.min-size.result (payloads_in c.args.payloads.now) (payloads_in c.parts.rest.now)
          (payloads_in c.in-Some.after.now) c.in-Some.payload.now.items
          c.parts.base.items c.add_part.new.base.items c.parts.invariant.so_far (search rules) size cut added;
      left = search rules;
    }
