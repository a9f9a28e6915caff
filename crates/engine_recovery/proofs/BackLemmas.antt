-- Engines that come back from what a crash left: the premises of what is said of kills are met.
use Rattle.std.proofs.Common.{◌≡◌, inl, inr, ℕ, zero, suc, ◌*◌, ◌<◌, ◌≤◌, List, [], ◌∷◌, ◌++◌, length, take, drop, refl, sym, ap, subst, arith}
use Rattle.std.proofs.Common.{length-append}
use Rattle.std.specs.Prelude.{replicate, None}
use Rattle.std.specs.List.{All}
use Rattle.std.proofs.lemmas.List.Elements.{All-nil}
use Rattle.tc_log.specs.Reading.{AreOnlyOnes}
use Rattle.tc_log.proofs.Only.{only_these}
use Rattle.tc_core.specs.declared.recovery.SiteNote.{SiteNote}
use Rattle.tc_core.specs.declared.recovery.SiteNote.TheVariants.{Untold}
use Rattle.frame_file.specs.Device.{Torn, word_at, IsLeft}
use Rattle.frame_file.specs.Frame.{framed, frames_from, IsPayload, ArePayloads, NoFrame}
use Rattle.frame_file.specs.Reading.{Reads, IsTold, IsBeforeOrAfter}
use Rattle.frame_file.proofs.Frames.{length-framed}
use Rattle.frame_file.proofs.Torns.{append_crash}
use Rattle.log_file.specs.declared.header.Header.{Header}
use Rattle.log_file.specs.declared.note.Note.{Note}
use Rattle.log_file.specs.Bytes.{batch_bytes}
use Rattle.log_file.specs.Reading.{Says}
use Rattle.tc_world.specs.Whole.{Whole}
use Rattle.tc_world.specs.Recovery.{come_back}
use Rattle.engine_recovery.specs.Telling.{payloads_in, appended, FileTells, IsRead}
use Rattle.engine_recovery.specs.Engine.{Engine, Turns, Killed, KilledWriting, IsBeingWritten, IsCutShort, ComesBack}
use Rattle.engine_recovery.specs.Since.{TellsSince}
use Rattle.engine_recovery.specs.Examples.{header_alone, nothing_written, begun, no_news}
use Rattle.engine_recovery.proofs.ExampleLemmas.{begun_engine}

-- ---- what is left of an append

no_more : (m : ℕ) → take {A = ℕ} 8 (drop m []) ≡ []
no_more zero = refl
no_more (suc m) = refl

-- past its end a list has no word
past : (m : ℕ) (bytes : List ℕ) → length bytes ≤ m → take 8 (drop m bytes) ≡ []
past m [] short = no_more m
past zero (b ∷ bytes) short = absurd (omega (arith, short))
past (suc m) (b ∷ bytes) short = past m bytes (omega (arith, short))

-- a word of a tail of at most 8 bytes is its first one
left_of_word : (bytes tail : List ℕ) → length tail ≤ 8 → IsLeft (word_at 0 bytes) (word_at 0 tail) → (k : ℕ) → IsLeft (word_at k bytes) (word_at k tail)
left_of_word bytes tail short is zero = is
left_of_word bytes tail short is (suc k) =
    subst (IsLeft (word_at (suc k) bytes)) (sym (past (8 * suc k) tail (omega (arith, short)))) (inl refl)

pub part_torn : Torn (1 ∷ 2 ∷ []) [] (1 ∷ [])
part_torn = record { tail = 1 ∷ []; is = refl; short = omega arith; words = left_of_word (1 ∷ 2 ∷ []) (1 ∷ []) (omega arith) (inl refl) }

-- a hole of one byte, of whatever was to be written
pub hole_torn : (bytes old : List ℕ) → 1 ≤ length bytes → Torn bytes old (old ++ 0 ∷ [])
hole_torn bytes old long = record {
  tail = 0 ∷ [];
  is = refl;
  short = omega (arith, long);
  words = left_of_word bytes (0 ∷ []) (omega arith) (inr refl);
}

-- ---- what is read of it

-- no frame is so short
short_none : (n : ℕ) (rest : List ℕ) → length rest < 24 → NoFrame n rest
short_none n rest short payload after fits is =
    let long = ap length is in
    omega (arith, short, long, length-append (framed n payload) after, length-framed n payload)

short_read : (ps : List (List ℕ)) (rest : List ℕ) → ArePayloads ps → length rest < 24 → Reads (frames_from 0 ps ++ rest) ps
short_read ps rest fit short = record { rest = rest; is = refl; fit = fit; ends = short_none (length ps) rest short }

nothing_says : (h : Header) → Says h (payloads_in h header_alone) None (replicate h.dcs Untold) []
nothing_says h = record {
  batches = [];
  is = refl;
  starts = tt;
  behind = tt;
  are = tt;
  known_is = refl;
  printed = record { rows = tt; prints = refl };
  only = only_these [] [] refl;
}

abbrev pub came_back : Header → ℕ → ℕ → Engine
came_back h rows ops = record (begun h rows ops) { world = come_back [] (replicate h.dcs Untold) (begun h rows ops).world }

comes_back : (h : Header) (rows ops : ℕ) (bytes : List ℕ) → Reads bytes (payloads_in h header_alone)
    → ComesBack h bytes (begun h rows ops).world (came_back h rows ops)
unfolding nothing_says
comes_back h rows ops bytes reads = record {
  read = record { reads = reads; says = nothing_says h; batches = refl };
  world = refl;
}

-- ---- turns

pub at_rest_back : (h : Header) (rows ops : ℕ) → ArePayloads (payloads_in h header_alone)
    → Turns h (Killed [] (frames_from 0 (payloads_in h header_alone) ++ []) ∷ []) (begun h rows ops) (came_back h rows ops)
at_rest_back h rows ops fit =
    let reads = short_read (payloads_in h header_alone) [] fit (omega arith) in
    ((begun h rows ops).world, came_back h rows ops, refl, reads, comes_back h rows ops (frames_from 0 (payloads_in h header_alone) ++ []) reads, refl)

nothing_tells : (h : Header) → FileTells h (appended header_alone (no_news ∷ [])) (nothing_written h)
nothing_tells h = record {
  starts = tt;
  behind = tt;
  are = (record { notes = tt; count = omega arith; there = All-nil (λ (n : Note). n.dc < h.dcs); whole = refl }, tt);
  numbers = tt;
  rows = record { rows = tt; prints = refl };
  notes = refl;
}

writes_nothing : (h : Header) (rows ops : ℕ) → IsBeingWritten h no_news (begun h rows ops) (nothing_written h) (begun h rows ops).world
writes_nothing h rows ops = record {
  tells = nothing_tells h;
  more = record { later = []; is = refl };
  log = record { later = []; is = refl };
  notes = (begun_engine h rows ops).tells.sites;
}

-- a hole of one byte is no frame
hole_left : (ps : List (List ℕ)) (payload : List ℕ) → ArePayloads ps → IsPayload payload → IsBeforeOrAfter ps payload (frames_from 0 ps ++ 0 ∷ [])
hole_left ps payload fit fits =
    let old = frames_from 0 ps in
    let frame = framed (length ps) payload in
    append_crash ps payload fit frame (length ps) (λ (c : List ℕ). c ≡ old) (λ (c : List ℕ). c ≡ old ++ 0 ∷ []) fits refl refl (λ c is. is)
    (λ c is. (old, refl, subst (Torn frame old) (sym is) (hole_torn frame old (omega (arith, length-framed (length ps) payload)))))
    (old ++ 0 ∷ []) refl

hole_told : (ps : List (List ℕ)) (payload : List ℕ) → IsTold ps payload (frames_from 0 ps ++ 0 ∷ [])
hole_told ps payload other after fits is =
    let long = ap length is in
    absurd (omega (
      arith,
      long,
      length-append (frames_from 0 ps) (0 ∷ []),
      length-append (frames_from 0 ps) (framed (length ps) other ++ after),
      length-append (framed (length ps) other) after,
      length-framed (length ps) other,
    ))

nothing_fits : IsPayload (batch_bytes no_news)
unfolding batch_bytes
nothing_fits = omega arith

pub within_back : (h : Header) (rows ops : ℕ) → ArePayloads (payloads_in h header_alone)
    → Turns h (KilledWriting [] no_news [] (frames_from 0 (payloads_in h header_alone) ++ 0 ∷ []) ∷ []) (begun h rows ops) (came_back h rows ops)
within_back h rows ops fit =
    let ps = payloads_in h header_alone in
    let bytes = frames_from 0 ps ++ 0 ∷ [] in
    let world = (begun h rows ops).world in
    let small : IsPayload (batch_bytes no_news) = nothing_fits in (
      world,
      world,
      nothing_written h,
      came_back h rows ops,
      refl,
      writes_nothing h rows ops,
      refl,
      record { left = hole_left ps (batch_bytes no_news) fit small; told = hole_told ps (batch_bytes no_news) },
      comes_back h rows ops bytes (short_read ps (0 ∷ []) fit (omega arith)),
      refl,
    )

pub nothing_since : (h : Header) (w : Whole) → TellsSince h.dcs w w no_news
nothing_since h w = record {
  fits = record { notes = tt; count = omega arith; there = All-nil (λ (n : Note). n.dc < h.dcs); whole = refl };
  begins = record { later = []; is = refl };
  numbers = tt;
  rows = record { rows = tt; prints = refl };
  notes = refl;
}
