-- A file that is read by itself.
use Rattle.std.proofs.Common.{arith, ◌≡◌, inl, ℕ, ◌+◌, ◌-◌, ◌≤◌, List, [], ◌∷◌, length, reverse, refl, sym, ◌∙◌, ap, subst, length-append}
use Rattle.frame_file.specs.Frame.{frames_from, IsEnd}
use Rattle.frame_file.specs.Reading.{Reads, IsReadFault, IsFound, payloads_in}
use Rattle.frame_file.specs.declared.reading.Found.{Found}
use Rattle.frame_file.proofs.Readings.{count_payloads}
use Rattle.frame_file.specs.declared.device.DeviceError.TheVariants.{Memory}
use Rattle.frame_file.specs.declared.reading.FrameFault.{FrameFault}
use Rattle.frame_file.specs.declared.reading.FrameFault.TheVariants.{Device}
use Rattle.log_file.specs.declared.header.Header.{Header}
use Rattle.log_file.specs.declared.reading.OpenFault.{OpenFault}
use Rattle.log_file.specs.declared.reading.OpenFault.TheVariants.{Frames, Empty, Other, NoBase, NoBatch, Row}
use Rattle.log_file.specs.declared.stored.Stored.{Stored}
use Rattle.log_file.specs.Found.{base_in}
use Rattle.log_file.specs.Reading.{IsHead, IsSayFault, Says}
use Rattle.log_file.specs.Stored.{IsStored, IsFileFault}
use Rattle.log_file.specs.Joining.Fields.{BeginsWith}
use Rattle.log_file.proofs.HeaderLemmas.{other_none}

-- ---- why a file isn't read

first_same : (x y : List ℕ) (xs ys : List (List ℕ)) → x ∷ xs ≡ y ∷ ys → x ≡ y
first_same x y xs ys same = cc

memory_fault : (file : List ℕ) (fault : FrameFault) → fault ≡ Device Memory → IsReadFault file fault
memory_fault file fault is = subst (IsReadFault file) (sym is) refl

pub say_fault : (h : Header) (file : List ℕ) (payloads : List (List ℕ)) (fault : OpenFault) → Reads file payloads → BeginsWith payloads h
    → IsSayFault h payloads fault → IsFileFault file fault
say_fault h file payloads (Frames fault) reads begins why = memory_fault file fault why
say_fault h file payloads Empty reads begins why = absurd (let bad : begins.first ∷ begins.rest ≡ [] = sym begins.is ∙ why in cc)
say_fault h file payloads Other reads begins why =
    let same : why.first ≡ begins.first = first_same why.first begins.first why.rest begins.rest (sym why.is ∙ begins.is) in
    inl (record {
      first = begins.first;
      rest = begins.rest;
      reads = subst (Reads file) begins.is reads;
      none = other_none h begins.first begins.fields (λ head. why.differs (subst (IsHead h) (sym same) head));
    })
say_fault h file payloads (NoBase number) reads begins why =
    record { header = h; unsaid = record { payloads = payloads; reads = reads; why = why } }
say_fault h file payloads (NoBatch number) reads begins why =
    record { header = h; unsaid = record { payloads = payloads; reads = reads; why = why } }
say_fault h file payloads (Row place) reads begins why =
    record { header = h; unsaid = record { payloads = payloads; reads = reads; why = why } }

-- ---- its end

pub ends_inside : (file : List ℕ) (payloads : List (List ℕ)) (end : ℕ) → Reads file payloads → end ≡ length (frames_from 0 payloads) → end ≤ length file
ends_inside file payloads end reads is =
    omega (arith, is, ap length reads.is, length-append (frames_from 0 payloads) reads.rest)

pub rest_is : (file : List ℕ) (payloads : List (List ℕ)) (end left : ℕ) → Reads file payloads → end ≡ length (frames_from 0 payloads) → left ≡ length file - end
    → length file ≡ length (frames_from 0 payloads) + left
rest_is file payloads end left reads is left_is = omega (arith, is, left_is, ends_inside file payloads end reads is)

pub is_stored : (file : List ℕ) (found : Found) (s : Stored) → IsFound file found
    → Says s.header (payloads_in found.payloads.items) (base_in s.base) s.notes.items (reverse s.log.events)
    → s.frames ≡ length found.payloads.items → s.unfinished ≡ length file - found.end → IsStored file s
is_stored file found s is says frames left =
    let vecs = found.payloads.items in
    record {
      payloads = payloads_in vecs;
      reads = is.reads;
      says = says;
      frames = frames ∙ sym (count_payloads vecs);
      unfinished = rest_is file (payloads_in vecs) found.end s.unfinished is.reads is.end left;
      ends = subst (λ (n : ℕ). IsEnd n is.reads.rest) (sym (count_payloads vecs)) is.ends;
    }
