-- Logs that are read on, and their lines.
use Rattle.std.proofs.Common.{arith, ◌≡◌, ℕ, zero, suc, ◌+◌, ◌-◌, ◌<◌, ◌≤◌, List, [], ◌∷◌, ◌++◌, length, take, drop}
use Rattle.std.proofs.Common.{map, reverse, refl, sym, ◌∙◌, ap, ap₂, subst, append_assoc, length-append, inl, inr}
use Rattle.std.specs.Prelude.{min, ◌⊎◌, Option, Some, None, IfOk, Result, Ok, Err, string_bytes}
use Rattle.std.specs.List.{flat_map, fold}
use Rattle.std.proofs.lemmas.List.{append-nil, map-append}
use Rattle.std.proofs.lemmas.List.Sums.{fold-append}
use Rattle.std.proofs.lemmas.Grind.{flat_map-append}
use Rattle.tc_core.specs.declared.recovery.SiteNote.{SiteNote}
use Rattle.tc_log.specs.declared.event.Event.{Event}
use Rattle.tc_log.specs.Printed.{printed}
use Rattle.tc_log.specs.Reading.{HaveRows, ArePrinted}
use Rattle.frame_file.specs.Frame.{framed, frames_from, IsPayload, ArePayloads, NoFrame}
use Rattle.frame_file.specs.Reading.{Reads}
use Rattle.frame_file.proofs.Frames.{frames_push, fit_push, none_short}
use Rattle.frame_file.proofs.Readings.{reads_one, cut_done}
use Rattle.log_file.specs.declared.header.Header.{Header}
use Rattle.log_file.specs.declared.stored.Stored.{Stored}
use Rattle.log_file.specs.Bytes.{Rows, Batch, batch_bytes, header_bytes, front_of, payloads_of, rows_of}
use Rattle.log_file.specs.Reading.{AreBatches, Says}
use Rattle.log_file.specs.Found.{base_in}
use Rattle.log_file.specs.Stored.{IsStored}
use Rattle.log_file.proofs.BaseLemmas.{front_same}
use Rattle.log_part.specs.declared.part.Part.{Part}
use Rattle.log_part.specs.declared.part.Part.TheVariants.{Whole}
use Rattle.log_part.specs.Part.{begin_of}
use Rattle.log_command.specs.declared.following.Followed.{Followed}
use Rattle.log_command.specs.EventLines.{event_lines}
use Rattle.log_command.specs.Following.{after, nothing_reached, lines_from, lines_behind, lines_of}
use Rattle.log_command.specs.Following.{HasEvents, IsFound, AreFound, IsReadUpTo, IsTaken, IsUnlike}
use Rattle.log_command.specs.Following.{IsWaiting, first_behind, HasPrinted, IsBegun, IsAnew, AreLines}
use Rattle.log_command.specs.declared.further.Further.{Further}
use Rattle.log_command.specs.declared.following.Begun.{Begun}
use Rattle.log_command.specs.declared.following.Begun.TheVariants as begun
use Rattle.log_command.specs.declared.following.Reached.{Reached}
use Rattle.log_command.specs.Joining.Further.{AreFurther}
use Rattle.log_command.proofs.EventLemmas.{event_lines-append}

-- ---- lines

-- no more events are left out than there are
pub skipped : (place k : ℕ) (events : List Event)
    → event_lines (place + min k (length events)) (drop (min k (length events)) events) ≡ event_lines (place + k) (drop k events)
skipped place zero events =
    let none : min zero (length events) ≡ zero = omega arith in ap (λ (m : ℕ). event_lines (place + m) (drop m events)) none
skipped place (suc k) [] =
    let none : min (suc k) (length {A = Event} []) ≡ zero = omega arith in ap (λ (m : ℕ). event_lines (place + m) (drop m [])) none
skipped place (suc k) (e ∷ events) =
    let m = min k (length events) in
    let on : min (suc k) (length (e ∷ events)) ≡ suc m = omega arith in
    let here : place + suc m ≡ place + 1 + m = omega arith in
    let there : place + 1 + k ≡ place + suc k = omega arith in
    ap (λ (n : ℕ). event_lines (place + n) (drop n (e ∷ events))) on
    ∙ (ap (λ (n : ℕ). event_lines n (drop m events)) here
    ∙ (skipped (place + 1) k events ∙ ap (λ (n : ℕ). event_lines n (drop k events)) there))

split_from : (p k : ℕ) (now events : List Event) → event_lines (p + k) (drop k (now ++ events))
    ≡ event_lines (p + k) (drop k now) ++ event_lines (p + length now + (k - length now)) (drop (k - length now) events)
split_from p zero now events =
    let none : zero - length now ≡ zero = omega arith in
    let here : p + zero + length now ≡ p + length now + zero = omega arith in
    event_lines-append (p + zero) now events
    ∙ (ap (λ (n : ℕ). event_lines (p + zero) now ++ event_lines n events) here
    ∙ ap (λ (n : ℕ). event_lines (p + zero) now ++ event_lines (p + length now + n) (drop n events)) (sym none))
split_from p (suc k) [] events =
    let all : suc k ≡ suc k - zero = omega arith in
    let here : p + suc k ≡ p + zero + suc k = omega arith in
    ap (λ (n : ℕ). event_lines n (drop (suc k) events)) here ∙ ap (λ (n : ℕ). event_lines (p + zero + n) (drop n events)) all
split_from p (suc k) (e ∷ now) events =
    let less : suc k - length (e ∷ now) ≡ k - length now = omega arith in
    let here : p + suc k ≡ p + 1 + k = omega arith in
    let there : p + 1 + length now ≡ p + length (e ∷ now) = omega arith in
    ap (λ (n : ℕ). event_lines n (drop k (now ++ events))) here
    ∙ (split_from (p + 1) k now events
    ∙ (ap (λ (n : ℕ). event_lines n (drop k now) ++ event_lines (p + 1 + length now + (k - length now)) (drop (k - length now) events)) (sym here)
    ∙ (ap (λ (n : ℕ). event_lines (p + suc k) (drop k now) ++ event_lines (n + (k - length now)) (drop (k - length now) events)) there
    ∙ ap (λ (n : ℕ). event_lines (p + suc k) (drop k now) ++ event_lines (p + length (e ∷ now) + n) (drop n events)) (sym less))))

lines_split : (first : ℕ) (now events : List Event) → lines_from first (now ++ events) ≡ lines_from first now ++ lines_behind first (length now) events
lines_split first now events =
    let same : first ≡ 0 + first = omega arith in
    let whole : 0 + length now ≡ length now = omega arith in
    ap (λ (n : ℕ). event_lines n (drop first (now ++ events))) same
    ∙ (split_from 0 first now events
    ∙ (ap (λ (n : ℕ). event_lines n (drop first now) ++ event_lines (0 + length now + (first - length now)) (drop (first - length now) events)) (sym same)
    ∙ ap (λ (n : ℕ). event_lines first (drop first now) ++ event_lines (n + (first - length now)) (drop (first - length now) events)) whole))

-- of a log of which nothing was read
pub lines_begun : (first : ℕ) (events : List Event) → lines_behind first 0 events ≡ lines_of first (events ∷ [])
lines_begun first events =
    let all : first - 0 ≡ first = omega arith in
    let same : 0 + first ≡ first = omega arith in
    ap (λ (n : ℕ). event_lines (0 + n) (drop n events)) all
    ∙ (ap (λ (n : ℕ). event_lines n (drop first events)) same ∙ sym (append-nil (lines_from first events)))

first_zero : (logs : List (List Event)) → first_behind logs 0 ≡ 0
first_zero [] = refl
first_zero (log ∷ logs) = refl

first_none : (logs : List (List Event)) (log : List Event) (more : List (List Event)) (first : ℕ) → first_behind ((logs ++ log ∷ []) ++ more) first ≡ 0
first_none [] log more first = refl
first_none (x ∷ logs) log more first = refl

lines_grow : (first : ℕ) (earlier : List (List Event)) (now events : List Event) → lines_of first (earlier ++ (now ++ events) ∷ [])
    ≡ lines_of first (earlier ++ now ∷ []) ++ lines_behind (first_behind earlier first) (length now) events
lines_grow first [] now events =
    append-nil (lines_from first (now ++ events))
    ∙ (lines_split first now events
    ∙ ap (λ (l : List ℕ). l ++ lines_behind first (length now) events) (sym (append-nil (lines_from first now))))
lines_grow first (log ∷ logs) now events =
    ap (λ (l : List ℕ). lines_from first log ++ l)
    (lines_grow 0 logs now events
    ∙ ap (λ (n : ℕ). lines_of 0 (logs ++ now ∷ []) ++ lines_behind n (length now) events) (first_zero logs))
    ∙ sym (append_assoc (lines_from first log) (lines_of 0 (logs ++ now ∷ [])) (lines_behind 0 (length now) events))

lines_then : (first : ℕ) (logs : List (List Event)) (log : List Event) (more : List (List Event))
    → lines_of first ((logs ++ log ∷ []) ++ more) ≡ lines_of first (logs ++ log ∷ []) ++ lines_of 0 more
lines_then first [] log more = ap (λ (l : List ℕ). l ++ lines_of 0 more) (sym (append-nil (lines_from first log)))
lines_then first (x ∷ logs) log more =
    ap (λ (l : List ℕ). lines_from first x ++ l) (lines_then 0 logs log more)
    ∙ sym (append_assoc (lines_from first x) (lines_of 0 (logs ++ log ∷ [])) (lines_of 0 more))

-- ---- frames

frames_append : (n : ℕ) (ps more : List (List ℕ)) → frames_from n (ps ++ more) ≡ frames_from n ps ++ frames_from (n + length ps) more
frames_append n [] more = let same : n ≡ n + zero = omega arith in ap (λ (k : ℕ). frames_from k more) same
frames_append n (p ∷ ps) more =
    let same : n + 1 + length ps ≡ n + length (p ∷ ps) = omega arith in
    ap (λ (b : List ℕ). framed n p ++ b)
    (frames_append (n + 1) ps more ∙ ap (λ (k : ℕ). frames_from (n + 1) ps ++ frames_from k more) same)
    ∙ sym (append_assoc (framed n p) (frames_from (n + 1) ps) (frames_from (n + length (p ∷ ps)) more))

fit_append : (ps more : List (List ℕ)) → ArePayloads ps → ArePayloads more → ArePayloads (ps ++ more)
fit_append [] more fit also = also
fit_append (p ∷ ps) more fit also = (fit.0, fit_append ps more fit.1 also)

reads_more : (file bytes rest : List ℕ) (ps more : List (List ℕ)) → Reads file ps → ArePayloads more → bytes ≡ frames_from (length ps) more ++ rest
    → NoFrame (length ps + length more) rest → Reads (frames_from 0 ps ++ bytes) (ps ++ more)
reads_more file bytes rest ps more reads fit is ends =
    let same : length ps ≡ 0 + length ps = omega arith in
    let count : length ps + length more ≡ length (ps ++ more) = sym (length-append ps more) in
    record {
      rest = rest;
      is =
          ap (λ (b : List ℕ). frames_from 0 ps ++ b) (is ∙ ap (λ (k : ℕ). frames_from k more ++ rest) same)
          ∙ (sym (append_assoc (frames_from 0 ps) (frames_from (0 + length ps) more) rest)
          ∙ ap (λ (b : List ℕ). b ++ rest) (sym (frames_append 0 ps more)));
      fit = fit_append ps more reads.fit fit;
      ends = subst (λ (k : ℕ). NoFrame k rest) count ends;
    }

-- frames that were written are read
pub reads_whole : (ps qs : List (List ℕ)) → ArePayloads ps → Reads (frames_from 0 ps) qs → qs ≡ ps
reads_whole ps qs fit reads =
    reads_one (frames_from 0 ps) ps qs (record { rest = []; is = sym (append-nil (frames_from 0 ps)); fit = fit; ends = none_short (length ps) [] (omega arith) }) reads

-- ---- events

batches_append : (dcs : ℕ) (a b : List Batch) → AreBatches dcs a → AreBatches dcs b → AreBatches dcs (a ++ b)
batches_append dcs [] b are also = also
batches_append dcs (x ∷ a) b are also = (are.0, batches_append dcs a b are.1 also)

rows_append : (xs ys : List Event) → HaveRows xs → HaveRows ys → HaveRows (xs ++ ys)
rows_append [] ys have also = also
rows_append (x ∷ xs) ys have also = (have.0, rows_append xs ys have.1 also)

printed_append : (xs ys : List Event) (r q : List ℕ) → ArePrinted xs r → ArePrinted ys q → ArePrinted (xs ++ ys) (r ++ q)
printed_append xs ys r q are also = record {
  rows = rows_append xs ys are.rows also.rows;
  prints = flat_map-append printed xs ys ∙ ap₂ (λ (a b : List ℕ). a ++ b) are.prints also.prints;
}

pub has_events : (h : Header) (payloads : List (List ℕ)) (base : Option Rows) (known : List SiteNote) (events : List Event) → Says h payloads base known events
    → HasEvents h payloads events
has_events h payloads base known events says =
    record { base = base; batches = says.batches; is = says.is; starts = says.starts; are = says.are; printed = says.printed }

-- frames behind those of a log, which are those of a log with the same header
has_more : (h : Header) (ps more : List (List ℕ)) (now events : List Event) → HasEvents h ps now → HasEvents h (header_bytes h ∷ more) events
    → HasEvents h (ps ++ more) (now ++ events)
has_more h ps more now events has also =
    let parts = front_same h None also.base more (map batch_bytes also.batches) tt also.starts also.is in
    let front = front_of h has.base in
    record {
      base = has.base;
      batches = has.batches ++ also.batches;
      is =
          ap₂ (λ (a b : List (List ℕ)). a ++ b) has.is parts.1
          ∙ (append_assoc front (map batch_bytes has.batches) (map batch_bytes also.batches)
          ∙ ap (λ (a : List (List ℕ)). front ++ a) (sym (map-append batch_bytes has.batches also.batches)));
      starts = has.starts;
      are = batches_append h.dcs has.batches also.batches has.are also.are;
      printed = subst (ArePrinted (now ++ events)) (sym (flat_map-append (λ (b : Batch). b.rows) has.batches also.batches))
          (printed_append now events (rows_of has.batches) (rows_of also.batches) has.printed also.printed);
    }

-- ---- what was read

-- the front of a file that has these frames
front_is : (file : List ℕ) (f : Followed) (events : List Event) → (r : IsReadUpTo file f events) → take f.bytes file ≡ frames_from 0 r.payloads
front_is file f events r = cut_done file r.payloads f.bytes r.reads r.bytes

-- further events of a log that is followed
pub read_further : (part : Part) (file printed bytes : List ℕ) (old new taken : Followed) (further : Further) (s : Stored) (events : List Event) (lines : List ℕ)
    → HasPrinted part file old printed → AreFurther old.header old.frames bytes further → IsStored further.file.items s → s.header ≡ old.header
    → events ≡ reverse s.log.events → lines ≡ lines_behind old.first old.events events → IsTaken old events taken
    → new.header ≡ taken.header → new.first ≡ taken.first → new.events ≡ taken.events → new.reached ≡ taken.reached
    → new.frames ≡ further.next → new.bytes ≡ old.bytes + (length bytes - further.unfinished)
    → HasPrinted part (take old.bytes file ++ bytes) new (printed ++ lines)
read_further part file printed bytes old new taken further s events lines has are stored same events_is lines_is is header first count reached frames end =
    let r = has.read in
    let h = old.header in
    let more = are.payloads in
    let written : stored.payloads ≡ header_bytes h ∷ more
    = reads_whole (header_bytes h ∷ more) stored.payloads are.fit (subst (λ (b : List ℕ). Reads b stored.payloads) are.file stored.reads) in
    let own : HasEvents s.header stored.payloads (reverse s.log.events)
    = has_events s.header stored.payloads (base_in s.base) s.notes.items (reverse s.log.events) stored.says in
    let own_header : HasEvents h stored.payloads (reverse s.log.events)
    = subst (λ (x : Header). HasEvents x stored.payloads (reverse s.log.events)) same own in
    let own_payloads : HasEvents h (header_bytes h ∷ more) (reverse s.log.events)
    = subst (λ (ps : List (List ℕ)). HasEvents h ps (reverse s.log.events)) written own_header in
    let also : HasEvents h (header_bytes h ∷ more) events
    = subst (λ (es : List Event). HasEvents h (header_bytes h ∷ more) es) (sym events_is) own_payloads in
    let all : HasEvents h (r.payloads ++ more) (has.now ++ events) = has_more h r.payloads more has.now events r.has also in
    let here : bytes ≡ frames_from (length r.payloads) more ++ are.rest = are.is ∙ ap (λ (k : ℕ). frames_from k more ++ are.rest) r.frames in
    let none : NoFrame (length r.payloads + length more) are.rest = subst (λ (k : ℕ). NoFrame (k + length more) are.rest) r.frames are.ends in
    let reads : Reads (frames_from 0 r.payloads ++ bytes) (r.payloads ++ more)
    = reads_more file bytes are.rest r.payloads more r.reads are.fit.1 here none in
    let joined = frames_append 0 r.payloads more in
    let size : length (frames_from 0 (r.payloads ++ more)) ≡ length (frames_from 0 r.payloads) + length (frames_from (length r.payloads) more)
    = ap length joined ∙ (length-append (frames_from 0 r.payloads) (frames_from (0 + length r.payloads) more)
    ∙ ap (λ (k : ℕ). length (frames_from 0 r.payloads) + length (frames_from k more)) (omega arith)) in
    let long = ap length here ∙ length-append (frames_from (length r.payloads) more) are.rest in
    let place : first_behind has.earlier (begin_of part has.count) ≡ old.first = sym has.first in
    record {
      earlier = has.earlier;
      now = has.now ++ events;
      count = has.count;
      found = has.found;
      read = record {
        payloads = r.payloads ++ more;
        reads = subst (λ (b : List ℕ). Reads (b ++ bytes) (r.payloads ++ more)) (sym (front_is file old has.now r)) reads;
        has = subst (λ (x : Header). HasEvents x (r.payloads ++ more) (has.now ++ events)) (sym (header ∙ is.header)) all;
        frames = frames ∙ (are.next ∙ (ap (λ (k : ℕ). k + length more) r.frames ∙ sym (length-append r.payloads more)));
        bytes = omega (arith, end, are.unfinished, r.bytes, size, long);
        count = count ∙ (is.count ∙ (ap (λ (k : ℕ). k + length events) r.count ∙ sym (length-append has.now events)));
        reached =
            reached
            ∙ (is.reached
            ∙ (ap (λ (x : Reached). fold after x events) r.reached ∙ sym (fold-append after nothing_reached has.now events)));
      };
      first = first ∙ (is.first ∙ has.first);
      are =
          ap₂ (λ (a b : List ℕ). a ++ b) has.are
          (lines_is ∙ (ap (λ (k : ℕ). lines_behind k old.events events) (sym place)
          ∙ ap (λ (k : ℕ). lines_behind (first_behind has.earlier (begin_of part has.count)) k events) r.count))
          ∙ sym (lines_grow (begin_of part has.count) has.earlier has.now events);
    }

-- a log that is followed from a part of its events on
pub has_begun : (part : Part) (file : List ℕ) (old taken : Followed) (s : Stored) (events : List Event) (lines : List ℕ)
    → IsStored file s → events ≡ reverse s.log.events → ((payloads : List (List ℕ)) → Reads file payloads → old.frames ≡ length payloads)
    → old.header ≡ s.header → old.bytes ≡ length file - s.unfinished → old.events ≡ 0 → old.first ≡ begin_of part (length events)
    → old.reached ≡ nothing_reached → taken.frames ≡ old.frames → taken.bytes ≡ old.bytes
    → lines ≡ lines_behind old.first old.events events → IsTaken old events taken → HasPrinted part file taken lines
has_begun part file old taken s events lines stored events_is frames header bytes none first nothing same_frames same_bytes lines_is is =
    let own : HasEvents s.header stored.payloads (reverse s.log.events)
    = has_events s.header stored.payloads (base_in s.base) s.notes.items (reverse s.log.events) stored.says in
    let also : HasEvents s.header stored.payloads events
    = subst (λ (es : List Event). HasEvents s.header stored.payloads es) (sym events_is) own in
    record {
      earlier = [];
      now = events;
      count = length events;
      found = tt;
      read = record {
        payloads = stored.payloads;
        reads = stored.reads;
        has = subst (λ (x : Header). HasEvents x stored.payloads events) (sym (is.header ∙ header)) also;
        frames = same_frames ∙ frames stored.payloads stored.reads;
        bytes = omega (arith, same_bytes, bytes, stored.unfinished);
        count = is.count ∙ omega (arith, none);
        reached = is.reached ∙ ap (λ (x : Reached). fold after x events) nothing;
      };
      first = is.first ∙ first;
      are =
          lines_is
          ∙ (ap₂ (λ (f n : ℕ). lines_behind f n events) first none ∙ lines_begun (begin_of part (length events)) events);
    }

-- ---- another log in its place

found_append : (a b : List (List Event)) → AreFound a → AreFound b → AreFound (a ++ b)
found_append [] b found also = also
found_append (log ∷ a) b found also = (found.0, found_append a b found.1 also)

followed_anew : (part : Part) (old_file file printed lines : List ℕ) (old new : Followed) → HasPrinted part old_file old printed → HasPrinted Whole file new lines
    → HasPrinted part file new (printed ++ lines)
followed_anew part old_file file printed lines old new has then =
    let start = begin_of part has.count in
    let before = has.earlier ++ has.now ∷ [] in
    let here : IsFound has.now
    = record { file = old_file; payloads = has.read.payloads; header = old.header; reads = has.read.reads; has = has.read.has } in
    let zero_first : first_behind then.earlier 0 ≡ 0 = first_zero then.earlier in
    record {
      earlier = before ++ then.earlier;
      now = then.now;
      count = has.count;
      found = found_append before then.earlier (found_append has.earlier (has.now ∷ []) has.found (here, tt)) then.found;
      read = then.read;
      first = then.first ∙ (zero_first ∙ sym (first_none has.earlier has.now then.earlier start));
      are =
          ap₂ (λ (a b : List ℕ). a ++ b) has.are then.are
          ∙ (sym (lines_then start has.earlier has.now (then.earlier ++ then.now ∷ []))
          ∙ ap (lines_of start) (sym (append_assoc before then.earlier (then.now ∷ []))));
    }

anew_one : (part : Part) (old_file file printed : List ℕ) (old : Followed) (b : Begun) → HasPrinted part old_file old printed → IsBegun Whole file b
    → IsAnew part file printed b
anew_one part old_file file printed old (begun.Followed f lines) has is = followed_anew part old_file file printed (string_bytes lines) old f has is
anew_one part old_file file printed old (begun.Unread report) has is = is

pub anew_is : {E : Type 0} (part : Part) (old_file file printed : List ℕ) (old : Followed) (r : Result Begun E) → HasPrinted part old_file old printed
    → IfOk r (IsBegun Whole file) → IfOk r (IsAnew part file printed)
anew_is part old_file file printed old (Ok b) has is = anew_one part old_file file printed old b has is
anew_is part old_file file printed old (Err e) has is = tt

-- ---- what is printed of a log that is followed

-- the lines are those of logs that were found
pub printed_lines : (part : Part) (file printed : List ℕ) (f : Followed) → HasPrinted part file f printed → AreLines part printed
printed_lines part file printed f has =
    let r = has.read in
    let here : IsFound has.now = record { file = file; payloads = r.payloads; header = f.header; reads = r.reads; has = r.has } in
    record {
      logs = has.earlier ++ has.now ∷ [];
      count = has.count;
      found = found_append has.earlier (has.now ∷ []) has.found (here, tt);
      are = has.are;
    }

-- none are, where none was found
pub no_lines : (part : Part) → AreLines part []
no_lines part = record { logs = []; count = 0; found = tt; are = refl }

still_printed : (part : Part) (file printed : List ℕ) (f : Followed) (n : ℕ) → HasPrinted part file f printed
    → HasPrinted part file (record f { unfinished = n }) printed
still_printed part file printed f n has =
    let r = has.read in
    record {
      earlier = has.earlier;
      now = has.now;
      count = has.count;
      found = has.found;
      read = record { payloads = r.payloads; reads = r.reads; has = r.has; frames = r.frames; bytes = r.bytes; count = r.count; reached = r.reached };
      first = has.first;
      are = has.are;
    }

-- where nothing is read on, what was read of the file is so still
pub read_or_waiting : (part : Part) (file next printed bytes lines : List ℕ) (old new : Followed) → HasPrinted part file old printed
    → HasPrinted part next new (printed ++ lines) ⊎ IsWaiting old bytes new lines → (now : List ℕ) × HasPrinted part now new (printed ++ lines)
read_or_waiting part file next printed bytes lines old new has either =
    elim either [
      | inl read ↦ (next, read)
      | inr waits ↦
          let still = still_printed part file printed old (length bytes) has in
          let same : printed ≡ printed ++ lines = sym (append-nil printed) ∙ ap (λ (l : List ℕ). printed ++ l) (sym waits.silent) in
          let followed = subst (λ (f : Followed). HasPrinted part file f printed) (sym waits.same) still in
          (file, subst (HasPrinted part file new) same followed)
    ]
