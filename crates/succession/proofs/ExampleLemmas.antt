-- What a wire is that one which was superseded carries.
use Rattle.std.proofs.Common.{◌≡◌, ℕ, [], ◌∷◌, ◌++◌, List, Option, Some, None, refl, sym, ap, subst}
use Rattle.std.specs.Prelude.{slice_get}
use Rattle.access_slots.specs.declared.op.Wire.{Wire}
use Rattle.tc_world.specs.Whole.{Whole}
use Rattle.transactions.specs.declared.Redoing.{Redoing}
use Rattle.transactions.specs.declared.Site.{Site}
use Rattle.transactions.specs.InFlight.{site_at}
use Rattle.tc_world.specs.Recovery.{IsWrittenFor, Noted, IsWritten, begun_anew, anew, come_back, notes_of}
use Rattle.tc_world.specs.Lives.{HasLived}
use Rattle.tc_world.proofs.ComingBack.{noted_at}
use Rattle.tc_world.proofs.Recovering.{among_all}
use Rattle.tc_world.proofs.AheadLemmas.{living_whole}
use Rattle.tc_world.proofs.WrittenLemmas.{again_written}
use Rattle.succession.specs.More.{with_more}
use Rattle.succession.proofs.SideLemmas.{both_among, nothing_among}
use Rattle.succession.proofs.MoreLemmas.{all_among}
use Rattle.tc_world.specs.Ahead.{Written}
use Rattle.tc_world.specs.declared.step.Step.{Step}
use Rattle.tc_world.proofs.ComingBack.{all_at}
use Rattle.succession.specs.Reigns.{GoesOn}

pub first_written : (p : Written) (w v : Whole) (x : Step) (late : Wire) (xs : List Wire) → GoesOn ((x, late ∷ xs) ∷ []) p w v → IsWrittenFor p.events late
first_written p w v x late xs (own, mid, (o, u, goes, honest, legal, good, (wires, replies, news, same)), ready, noted, is) =
    all_at (IsWrittenFor p.events) mid.copies 0 late (ap (λ (z : Whole). slice_get z.copies 0) same) ready

-- the whole log and all that is known tell of all that is carried
pub all_at_once : (w : Whole) → HasLived w → IsWritten w.core.events (notes_of w) (with_more [] w)
all_at_once w lived =
    let is = living_whole w lived in
    record {
      begins = is.begins;
      sites = λ d. Noted (noted_at w.core.sites d);
      copies = among_all (IsWrittenFor w.core.events) (w.copies ++ []) w.copies (both_among w.copies [] w.copies (all_among w.copies) (nothing_among w.copies)) is.copies;
      replies = is.replies;
      stores = is.stores;
      news = is.news;
      redo = is.redo;
    }

noted_once_more : (incarnation : ℕ) (r : Option Redoing) → (let t : Site = record { incarnation = incarnation; redo = begun_anew r } in t ≡ anew t)
noted_once_more incarnation None = refl
noted_once_more incarnation (Some r) = refl

-- so they do once another has taken over, and all wires have come once more
pub all_once_more : (w : Whole) → HasLived w
    → IsWritten w.core.events (notes_of w) (with_more (w.copies ++ []) (with_more w.copies (come_back w.core.events (notes_of w) w)))
all_once_more w lived =
    let is = living_whole w lived in
    let back = again_written w w.core.events (notes_of w) is in
    let own = all_among w.copies in
    record {
      begins = back.begins;
      sites = λ d. Noted (subst (λ (t : Site). t ≡ anew t) (sym (noted_at w.core.sites d))
          (noted_once_more (site_at w.core.sites d).incarnation (site_at w.core.sites d).redo));
      copies = among_all (IsWrittenFor w.core.events) ((w.copies ++ w.copies) ++ (w.copies ++ [])) w.copies
          (both_among (w.copies ++ w.copies) (w.copies ++ []) w.copies (both_among w.copies w.copies w.copies own own)
          (both_among w.copies [] w.copies own (nothing_among w.copies))) is.copies;
      replies = back.replies;
      stores = back.stores;
      news = back.news;
      redo = back.redo;
    }
