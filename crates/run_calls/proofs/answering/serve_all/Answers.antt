use Rattle.std.proofs.Common.{rules, ◌≡◌, length, drop, ◌∷◌, ◌++◌, [], subst, sym}
use Rattle.std.specs.Vec.Iter.{into_iter_items}
use Rattle.run_calls.specs.Joining.Servers.{Promises, ArePromised}
use Rattle.run_calls.proofs.ServerLemmas.{one_more}
use Rattle.run_calls.proofs.answering.serve_all.Goals as goal

pub returns-then-is_err : goal.returns-then-is_err
returns-then-is_err g c =
    let same : c.push.new.self.items ≡ c.loop-dc.servers.items = search rules in
    subst (ArePromised c.args.dcs.items) (sym same) c.loop-dc.invariant.1

pub loop-dc-preserved : goal.loop-dc-preserved
loop-dc-preserved g c =
    let l = c.loop-dc in
    let rest = into_iter_items c.next.new.self in
    let promises : Promises (length l.servers.items) c.in-Some.dc c.in-Ok.server = search rules in
    let next : c.in-Some.dc ∷ rest ≡ drop (length l.servers.items) c.args.dcs.items = search rules in
    let now : c.push.new.self.items ≡ l.servers.items ++ c.in-Ok.server ∷ [] = search rules in
    one_more c.args.dcs.items rest l.servers.items c.push.new.self.items c.in-Ok.server c.in-Some.dc next promises now l.invariant.1
