use Rattle.std.proofs.Common.{rules, length, ◌/◌}
use Rattle.object_file.proofs.Loops.{headers_further}
use Rattle.object_file.proofs.elf.headers_in.Goals as goal

pub entries-preserved : goal.entries-preserved
entries-preserved c = let l = c.entries in record {
  so_far = headers_further l.headers.items c.push.new.self.items (length c.args.table.now / 64) l.counter c.header_in.result l.rest.now c.split_at.result.0.now c.split_at.result.1.now _
      (search rules) l.invariant.so_far (search rules) c.header_in.ensures c.split_at.ensures.front c.split_at.ensures.back;
  left = search rules;
}
