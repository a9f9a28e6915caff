-- Whatever turns an engine takes, it may be killed behind them.
use Rattle.std.proofs.Common.{◌≡◌, ⊎_elim, ℕ, false, List, [], ◌∷◌, reverse, refl, sym, ◌∙◌, ap, subst}
use Rattle.std.specs.List.{flat_map}
use Rattle.access_slots.specs.declared.op.Wire.{Wire}
use Rattle.access_slots.specs.declared.op.Reply.{Reply}
use Rattle.access_slots.specs.declared.op.News.{News}
use Rattle.frame_file.specs.Reading.{Reads}
use Rattle.log_file.specs.declared.header.Header.{Header}
use Rattle.log_file.specs.Bytes.{Batch, notes_of, rows_of}
use Rattle.log_file.specs.Reading.{IsStart, IsBehind, AreBatches, last_known}
use Rattle.tc_log.specs.Printed.{printed}
use Rattle.tc_log.specs.Reading.{ArePrinted, AreEvents}
use Rattle.transactions.specs.Legal.{Legal}
use Rattle.transactions.specs.Rows.{AllTakeFew}
use Rattle.transactions.proofs.Rows.{legal_prints}
use Rattle.verifier.specs.Checked.{Checked}
use Rattle.tc_world.specs.Whole.{Whole}
use Rattle.tc_world.specs.Recovery.{come_back}
use Rattle.tc_world.specs.Lives.{Lives, Takes, Loses, HasLived}
use Rattle.tc_world.specs.Ahead.{Written, all_written, Tells, IsAhead, WritesAhead, Goes as Acts}
use Rattle.tc_world.specs.OneAtATime.{is_forge}
use Rattle.tc_world.specs.Steps.{Steps}
use Rattle.tc_world.specs.declared.step.Step.{Step}
use Rattle.tc_world.specs.declared.step.Step.TheVariants as step
use Rattle.tc_world.specs.declared.step.Outcome.{Outcome}
use Rattle.tc_world.proofs.Listed.{Known}
use Rattle.tc_world.proofs.WrittenLemmas.{rest_of, again_written}
use Rattle.tc_world.proofs.LivingLemmas.{crash_lived}
use Rattle.tc_world.proofs.AheadLemmas.{ahead_lived, ahead_told, living_whole, whole_turn as world_turn}
use Rattle.engine_recovery.specs.Telling.{Contents, payloads_in, FileTells}
use Rattle.engine_recovery.specs.Engine.{Engine, MayBeKilled, Writing, written_on}
use Rattle.engine_recovery.specs.Engine.{TakesInMemory, GoesAhead, IsBeingWritten, IsCutShort}
use Rattle.engine_recovery.specs.Engine.{ComesBack, Turn, Goes, Killed, KilledWriting, Turns}
use Rattle.engine_recovery.proofs.MemoryLemmas.{InMemory, one_in_memory, in_memory, told_in_memory}
use Rattle.engine_recovery.proofs.ReadingLemmas.{read_tells, at_rest, while_writing}

goes : (h : Header) (x : Step) (y : Writing) (xs : List Wire) (rs : List Reply) (ns : List (ℕ × News)) (e mid : Engine) → MayBeKilled h e
    → Lives (Takes x ∷ Loses xs rs ns ∷ []) e.world mid.world → GoesAhead h x y e mid → MayBeKilled h mid
goes h x y xs rs ns e mid k lives is = record {
  file = is.tells;
  tells = ahead_told (Acts x mid.written xs rs ns ∷ []) e.written mid.written e.world mid.world k.lived k.tells writes;
  lived = ahead_lived (Acts x mid.written xs rs ns ∷ []) e.written mid.written e.world mid.world k.lived k.tells writes;
}
  where
    writes : WritesAhead (Acts x mid.written xs rs ns ∷ []) e.written e.world mid.written mid.world
    writes = (mid.world, lives, is.ahead, (refl, refl))

pub thinks : (h : Header) (steps : List Step) (e : Engine) (w : Whole) → MayBeKilled h e → TakesInMemory steps e.world w → InMemory e.written.events e.world w
thinks h steps e w k taken =
    in_memory e.written.events steps e.world w k.lived k.tells.copies (rest_of e.written.events e.written.notes e.world k.tells) taken

-- it comes back to a world that has lived, of which what was read tells
backs : (h : Header) (mid : Engine) (p : Written) (w : Whole) → FileTells h mid.file mid.written → mid.written ≡ p
    → mid.world ≡ come_back mid.written.events mid.written.notes w → HasLived (come_back p.events p.notes w)
    → Tells p (come_back p.events p.notes w) → MayBeKilled h mid
backs h mid p w tells same world lived told = record {
  file = tells;
  tells = subst (λ (q : Written). Tells q mid.world) (sym same) (subst (Tells p) (sym here) told);
  lived = subst HasLived (sym here) lived;
}
  where
    here : mid.world ≡ come_back p.events p.notes w
    here = world ∙ ap (λ (q : Written). come_back q.events q.notes w) same

-- from what was written before the steps that it took in memory
backs_before : (h : Header) (bytes : List ℕ) (e mid : Engine) (w : Whole) → MayBeKilled h e → InMemory e.written.events e.world w
    → ComesBack h bytes w mid → mid.written ≡ e.written → MayBeKilled h mid
backs_before h bytes e mid w k m back same =
    backs h mid e.written w (read_tells h bytes mid.file e.written mid.written back.read same k.file.numbers) same back.world
    (subst HasLived (sym here) (crash_lived e.world e.written.events e.written.notes k.tells k.lived))
    (subst (Tells e.written) (sym here) (again_written e.world e.written.events e.written.notes k.tells))
  where
    here : come_back e.written.events e.written.notes w ≡ come_back e.written.events e.written.notes e.world
    here = m.same e.written.events e.written.notes

killed : (h : Header) (steps : List Step) (bytes : List ℕ) (e mid : Engine) (w : Whole) → MayBeKilled h e → TakesInMemory steps e.world w
    → Reads bytes (payloads_in h e.file) → ComesBack h bytes w mid → MayBeKilled h mid
killed h steps bytes e mid w k taken reads back =
    backs_before h bytes e mid w k (thinks h steps e w k taken) back
    (at_rest h bytes e.file mid.file e.written mid.written k.file reads back.read).1

killed_writing : (h : Header) (steps later : List Step) (b : Batch) (bytes : List ℕ) (e mid : Engine) (next : Written) (w v : Whole) → MayBeKilled h e
    → TakesInMemory steps e.world w → IsBeingWritten h b e next w → TakesInMemory later w v → IsCutShort h e.file b bytes → ComesBack h bytes v mid
    → MayBeKilled h mid
killed_writing h steps later b bytes e mid next w v k taken writes on cut back =
    ⊎_elim
    (λ before. backs_before h bytes e mid v k (one_in_memory e.written.events e.world w v m.same
    (in_memory e.written.events later w v m.lived m.copies m.rest on)) back before.1)
    (λ after. backs h mid next v (read_tells h bytes mid.file next mid.written back.read after.1 writes.tells.numbers) after.1 back.world
    (subst HasLived (sym here) (crash_lived w next.events next.notes told m.lived))
    (subst (Tells next) (sym here) (again_written w next.events next.notes told)))
    (while_writing h bytes e.file mid.file b e.written next mid.written k.file writes.tells cut back.read)
  where
    m : InMemory e.written.events e.world w
    m = thinks h steps e w k taken

    told : Tells next w
    told = told_in_memory e.written.events next.events next.notes e.world w m writes.more writes.log writes.notes

    here : come_back next.events next.notes v ≡ come_back next.events next.notes w
    here = (in_memory next.events later w v m.lived told.copies (rest_of next.events next.notes w told) on).same next.events next.notes

pub turned : (h : Header) (turns : List Turn) (e e' : Engine) → MayBeKilled h e → Turns h turns e e' → MayBeKilled h e'
turned h [] e e' k is = subst (MayBeKilled h) (sym is) k
turned h (Goes x y xs rs ns ∷ turns) e e' k (mid, lives, is, rest) = turned h turns mid e' (goes h x y xs rs ns e mid k lives is) rest
turned h (Killed steps bytes ∷ turns) e e' k (w, mid, taken, reads, back, rest) =
    turned h turns mid e' (killed h steps bytes e mid w k taken reads back) rest
turned h (KilledWriting steps b later bytes ∷ turns) e e' k (w, v, next, mid, taken, writes, on, cut, back, rest) =
    turned h turns mid e' (killed_writing h steps later b bytes e mid next w v k taken writes on cut back) rest

-- ---- an engine whose file tells of all

-- a world that has lived, with its whole log and notes of all that is known
pub whole_engine : (h : Header) (f : Contents) (w : Whole) → HasLived w → FileTells h f (all_written w)
    → MayBeKilled h (record { file = f; written = all_written w; world = w })
whole_engine h f w lived tells = record { file = tells; tells = living_whole w lived; lived = lived }

pub whole_turn : (h : Header) (f : Contents) (y : Writing) (w v : Whole) (x : Step) (o : Outcome) → HasLived w → Known v.core
    → is_forge x ≡ false → ((n : ℕ) → x ≡ step.Crash n → ⊥) → Steps w x o v → FileTells h (written_on y f) (all_written v)
    → Turns h (Goes x y v.copies v.replies v.news ∷ [])
    (record { file = f; written = all_written w; world = w }) (record { file = written_on y f; written = all_written v; world = v })
whole_turn h f y w v x o lived known honest no_crash steps tells = (after, lives, record { file = refl; tells = tells; ahead = ahead }, refl)
  where
    after : Engine
    after = record { file = written_on y f; written = all_written v; world = v }

    turn : WritesAhead (Acts x (all_written v) v.copies v.replies v.news ∷ []) (all_written w) w (all_written v) v
    turn = world_turn w v x o lived known honest no_crash steps

    lives : Lives (Takes x ∷ Loses v.copies v.replies v.news ∷ []) w v
    lives = subst (λ (z : Whole). Lives (Takes x ∷ Loses v.copies v.replies v.news ∷ []) w z) (sym turn.3.1) turn.1

    ahead : IsAhead x (all_written w) (all_written v) v
    ahead = subst (IsAhead x (all_written w) (all_written v)) (sym turn.3.1) turn.2

pub telling : (h : Header) (f : Contents) (p : Written) (ps : List Checked) → AllTakeFew ps → Legal ps p.events → IsStart f.base
    → IsBehind f.base (reverse p.events) → AreBatches h.dcs f.batches → AreEvents (reverse p.events)
    → rows_of f.batches ≡ flat_map printed (reverse p.events) → last_known h.dcs (notes_of f.batches) ≡ p.notes → FileTells h f p
telling h f p ps few legal starts behind are numbers rows notes = record {
  starts = starts;
  behind = behind;
  are = are;
  numbers = numbers;
  rows = subst (ArePrinted (reverse p.events)) (sym rows) (legal_prints ps p.events few legal);
  notes = notes;
}
