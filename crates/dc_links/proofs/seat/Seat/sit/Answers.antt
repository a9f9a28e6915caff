use Rattle.std.proofs.Common.{rules}
use Rattle.dc_links.proofs.Seated.{sits_down, chosen}
use Rattle.dc_links.proofs.seat.Seat.sit.Goals as goal

pub store-requires : goal.store-requires
store-requires g c =
    let put = c.in-Ok.ensures.put in (
      search rules,
      search rules,
      sits_down _ _ _ _ (chosen c.take-pass.result.me c.slot_mut.result.now _ _ c.take-pass.ensures.held c.slot_mut.ensures.value put.0 put.1),
    )
