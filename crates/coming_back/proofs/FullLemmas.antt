-- A data component that is silent to what is redone has no room for a further operation.
use Rattle.std.proofs.Common.{◌≡◌, ℕ, ◌<◌, ◌==◌, List, length, map, zero, suc, ◌∷◌, [], Some, None, refl, sym, ◌∙◌, ap, subst, arith}
use Rattle.std.specs.Prelude.{slice_get}
use Rattle.access_slots.specs.Locks.{target}
use Rattle.access_slots.specs.declared.op.Wire.{Wire}
use Rattle.data_component.specs.Store.{Store, marked, fate_of, performed}
use Rattle.transactions.specs.declared.Site.{Site}
use Rattle.transactions.specs.InFlight.{site_at}
use Rattle.transactions.specs.Legal.{Legal}
use Rattle.transactions.proofs.StandingLemmas.{some_same, none_some, eq-true}
use Rattle.serial.proofs.SitesLemmas.{set_same}
use Rattle.tc_core.specs.Core.{Core}
use Rattle.tc_core.specs.Redo.{redo_reply}
use Rattle.tc_core.specs.declared.state.Redo.TheVariants as redo
use Rattle.coming_back.specs.Faults.{restart_notes, IsFull}
use Rattle.coming_back.specs.Serving.{IsRedoFor}
use Rattle.coming_back.specs.Joining.Performing.{Performs, There, Nowhere}
use Rattle.coming_back.specs.Joining.Redoing.{Redoes, IsMatched}
use Rattle.std.proofs.lemmas.List.{length-map}
use Rattle.data_component.specs.Store.{news_of}
use Rattle.tc_core.specs.Recovery.{site_noted}
use Rattle.tc_core.specs.declared.recovery.SiteNote.TheVariants.{Restarted}
use Rattle.coming_back.proofs.ServingLemmas.{served_incarnation}
use Rattle.coming_back.proofs.SilentLemmas.{full_by, silent_room}
use Rattle.coming_back.proofs.SentLemmas.{sent_at}
use Rattle.coming_back.proofs.RedoLemmas.{there}
use Rattle.coming_back.proofs.ComingLemmas.{site_incarnation}

pub silent_full : (c : Core) (n : ℕ) (x : Wire) (ds es : List Store) → Legal c.procs c.events
    → redo.Send x ≡ redo_reply c n → Performs ds x None es → IsMatched c ds n → IsFull es n
silent_full c n x ds es legal is (There it) matched =
    let sent = sent_at c n x (slice_get c.sites n) legal refl is in
    let same : it.s ≡ matched.s = some_same it.s matched.s (sym it.at ∙ (ap (slice_get ds) sent.dc ∙ matched.at)) in
    let heard : it.s.incarnation ≡ x.incarnation = ap (λ (s : Store). s.incarnation) same ∙ (sym matched.known ∙ sym sent.incarnation) in
    let then : Store = performed it.s x in
    record {
      s = then;
      at = subst (λ (k : ℕ). slice_get es k ≡ Some then) sent.dc
          (ap (λ (fs : List Store). slice_get fs (target x.op).dc) it.then_is
          ∙ set_same ds (target x.op).dc it.s then it.at);
      full = full_by it.s (marked it.s x.low_water) x.number x.op (it.s.incarnation == x.incarnation) (fate_of it.s x)
          refl refl (eq-true _ _ heard) (sym it.said) (silent_room it.s x);
    }
silent_full c n x ds es legal is (Nowhere past none same) matched =
    let sent = sent_at c n x (slice_get c.sites n) legal refl is in
    absurd (none_some (slice_get ds n) matched.s (ap (slice_get ds) (sym sent.dc) ∙ past) matched.at)

-- ---- what is known of a data component stays so

pub matched_then : (c d : Core) (ds es : List Store) (n : ℕ) → Redoes c ds d es → IsMatched c ds n → IsMatched d es n
matched_then c d ds es n redoes matched =
    let now = redoes.redone.each n matched.s matched.at in
    record { s = now.now; at = now.at; known = redoes.incarnations n ∙ (matched.known ∙ sym (served_incarnation (IsRedoFor n) matched.s now.now now.served)) }

down_there : (sites : List Site) (n : ℕ) → ((site_at sites n).redo ≡ None → ⊥) → n < length sites
down_there [] n down = absurd (down refl)
down_there (s ∷ sites) zero down = omega arith
down_there (s ∷ sites) (suc n) down = (let low = down_there sites n down in omega (arith, low))

-- a data component that is down is there, and was of the incarnation of which the first news told
pub matched_new : (c d : Core) (ds es : List Store) (n : ℕ) → c.sites ≡ map site_noted (restart_notes ds)
    → Redoes c ds d es → ((site_at d.sites n).redo ≡ None → ⊥) → IsMatched c ds n
matched_new c d ds es n noted redoes down =
    let low = down_there d.sites n down in
    let same = redoes.count in
    let count : length c.sites ≡ length ds = ap length noted
    ∙ (length-map (restart_notes ds) site_noted ∙ length-map ds (λ (x : Store). Restarted (news_of x))) in
    let s = there ds n (omega (arith, low, same, count)) in
    record { s = s.0; at = s.1; known = site_incarnation c ds n s.0 noted s.1 }
