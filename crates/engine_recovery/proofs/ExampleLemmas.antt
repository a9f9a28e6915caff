-- Files and engines at their beginning.
use Rattle.std.proofs.Common.{◌≡◌, ℕ, zero, suc, List, [], ◌∷◌, ◌++◌, map, length, length-append, arith, refl, sym, ◌∙◌, ap, subst}
use Rattle.std.specs.Prelude.{replicate}
use Rattle.tc_log.specs.declared.event.Event.{Event}
use Rattle.history.specs.Places.{Begins}
use Rattle.transactions.specs.InFlight.{untold}
use Rattle.tc_core.specs.declared.recovery.SiteNote.{SiteNote}
use Rattle.tc_core.specs.declared.recovery.SiteNote.TheVariants.{Untold}
use Rattle.log_file.specs.declared.header.Header.{Header}
use Rattle.tc_world.specs.Recovery.{note_of}
use Rattle.tc_world.specs.Ahead.{Written, all_written}
use Rattle.tc_world.specs.Examples.{empty_world}
use Rattle.tc_world.proofs.ExampleLemmas.{empty_lived}
use Rattle.engine_recovery.specs.Telling.{FileTells}
use Rattle.engine_recovery.specs.Engine.{MayBeKilled}
use Rattle.engine_recovery.specs.Examples.{header_alone, nothing_written, begun}
use Rattle.engine_recovery.proofs.TurnLemmas.{whole_engine}

pub begun_tells : (h : Header) → FileTells h header_alone (nothing_written h)
begun_tells h = record { starts = tt; behind = tt; are = tt; numbers = tt; rows = record { rows = tt; prints = refl }; notes = refl }

untold_notes : (n : ℕ) → map note_of (replicate n untold) ≡ replicate n Untold
untold_notes zero = refl
untold_notes (suc n) = ap (λ (notes : List SiteNote). Untold ∷ notes) (untold_notes n)

pub begun_engine : (h : Header) (rows ops : ℕ) → MayBeKilled h (begun h rows ops)
begun_engine h rows ops =
    let same : all_written (empty_world h.dcs rows ops) ≡ nothing_written h
    = ap (λ (notes : List SiteNote). let p : Written = record { events = []; notes = notes } in p) (untold_notes h.dcs) in
    subst (λ (p : Written). MayBeKilled h (record { file = header_alone; written = p; world = empty_world h.dcs rows ops })) same
    (whole_engine h header_alone (empty_world h.dcs rows ops) (empty_lived h.dcs rows ops) (subst (FileTells h header_alone) (sym same) (begun_tells h)))

-- what an empty log begins with is empty
pub none_begins : (first h : List Event) → Begins first h → h ≡ [] → first ≡ []
none_begins [] h begins none = refl
none_begins (e ∷ first) h begins none =
    let long : length (begins.later ++ e ∷ first) ≡ 0 = ap length (sym begins.is ∙ none) in
    absurd (omega (arith, long, length-append begins.later (e ∷ first)))
