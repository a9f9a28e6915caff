-- What is written where a log is followed.
use Rattle.std.proofs.Common.{arith, length, ◌≡◌, ℕ, List, [], ◌∷◌, ◌++◌, take, Option, refl, sym, ◌∙◌, ap, subst, append_assoc, inl, inr, codes}
use Rattle.std.proofs.lemmas.List.{append-nil}
use Rattle.std.proofs.KnownBytes.{Appends-nil, Appends-trans}
use Rattle.log_part.specs.declared.part.Part.{Part}
use Rattle.log_command.specs.declared.following.Seam.{Seam}
use Rattle.log_command.specs.declared.following.Followed.{Followed}
use Rattle.log_command.specs.LogReport.{IsUnread}
use Rattle.log_command.specs.Following.{AreLines, HasPrinted, seam_line}
use Rattle.log_command.proofs.FollowLemmas.{printed_lines, no_lines}
use Rattle.program_files.specs.Streams.{Stream, stream, Gets, Begins, TellsUnread, TellsNotPrinted, IsToldOrNoMemory}
use Rattle.program_files.specs.Following.{TellsSeams, seam_parts, EndsBy, EndsBehind, IsFollowed}
use Rattle.program_files.specs.Following.{Refused, RefusedInPart, NotPrinted, NotRead, OutOfMemory}
use Rattle.program_files.specs.Joining.Followed.{IsReadEnd}
use Rattle.program_files.specs.declared.following.End.{End}
use Rattle.program_files.specs.declared.following.End.TheVariants as end
use Rattle.program_files.proofs.Streaming.{begins_behind}

-- ---- what wasn't seen

pub no_seams : (a : Option (List ℕ)) → TellsSeams (stream a a)
no_seams a = ([], Appends-nil a)

pub one_seam : (s : Stream) (seam : Seam) → Begins s (seam_line seam) → TellsSeams s
one_seam s seam begins =
    ((seam, begins.0) ∷ [], subst (Gets s) (sym (append-nil (take begins.0 (seam_line seam)))) begins.1)

seams_append : (a b : List (Seam × ℕ)) → seam_parts (a ++ b) ≡ seam_parts a ++ seam_parts b
seams_append [] b = refl
seams_append (part ∷ a) b =
    let first = take part.1 (seam_line part.0) in
    ap (λ (l : List ℕ). first ++ l) (seams_append a b) ∙ sym (append_assoc first (seam_parts a) (seam_parts b))

pub more_seams : (a b c : Option (List ℕ)) → TellsSeams (stream a b) → TellsSeams (stream b c) → TellsSeams (stream a c)
more_seams a b c one more = (
  one.0 ++ more.0,
  subst (Gets (stream a c)) (sym (seams_append one.0 more.0))
      (Appends-trans a b c (seam_parts one.0) (seam_parts more.0) one.1 more.1),
)

pub no_bytes : (bytes : List ℕ) → length bytes ≡ 0 → bytes ≡ []
no_bytes [] none = refl
no_bytes (byte ∷ bytes) none = absurd (omega (arith, none))

-- ---- where it ends

ends_by : (printed : List ℕ) (out : Stream) (e : End) → IsReadEnd e → Gets out printed → EndsBy printed out e
ends_by printed out (end.Refused report) is gets = (is, gets)
ends_by printed out (end.Unread reason) is gets = gets
ends_by printed out (end.Unwritten error) is gets = absurd is
ends_by printed out end.Memory is gets = gets

-- before any line
pub ends_at_once : (part : Part) (a b : Option (List ℕ)) (e : End) → IsReadEnd e → EndsBehind part (stream a a) (stream b b) e
ends_at_once part a b e is = ([], no_lines part, no_seams b, ends_by [] (stream a a) e is (Appends-nil a))

-- behind lines that were written
pub ends_behind : (part : Part) (file printed : List ℕ) (f : Followed) (out err : Stream) (e : End) → HasPrinted part file f printed → Gets out printed
    → TellsSeams err → IsReadEnd e → EndsBehind part out err e
ends_behind part file printed f out err e has gets seams is = (printed, printed_lines part file printed f has, seams, ends_by printed out e is gets)

-- where lines aren't written
pub ends_unwritten : (part : Part) (file printed lines : List ℕ) (f : Followed) (a b c : Option (List ℕ)) (err : Stream) (e : End)
    → HasPrinted part file f (printed ++ lines) → Gets (stream a b) printed → Begins (stream b c) lines → TellsSeams err
    → (Begins (stream a c) (printed ++ lines) → EndsBy (printed ++ lines) (stream a c) e) → EndsBehind part (stream a c) err e
ends_unwritten part file printed lines f a b c err e has gets begins seams by =
    (printed ++ lines, printed_lines part file (printed ++ lines) f has, seams, by (begins_behind a b c printed lines gets begins))

-- ---- what is told of that

module _ (path : List ℕ) (part : Part) (a b d : Option (List ℕ)) (printed : List ℕ) (are : AreLines part printed) (e : Option (List ℕ))
    (seams : TellsSeams (stream d e)) where
  pub refused_stops : (c : Option (List ℕ)) (file lines : List ℕ) (meant : ℕ) → IsUnread file meant lines → Gets (stream a b) printed
      → Gets (stream b c) lines → IsFollowed path part (stream a c) (stream d e) meant
  refused_stops c file lines meant unread gets more = record {
    printed = printed;
    are = are;
    told = e;
    seams = seams;
    stops = Refused file lines unread (Appends-trans a b c printed lines gets more) refl;
  }

  pub cut_stops : (c f : Option (List ℕ)) (file lines : List ℕ) (meant status : ℕ) → IsUnread file meant lines → Gets (stream a b) printed
      → Begins (stream b c) lines → status ≡ 3 → TellsNotPrinted (stream e f) → IsFollowed path part (stream a c) (stream d f) status
  cut_stops c f file lines meant status unread gets begins three told = record {
    printed = printed;
    are = are;
    told = e;
    seams = seams;
    stops = RefusedInPart file lines meant unread three (begins_behind a b c printed lines gets begins) told;
  }

  pub unwritten_stops : (f : Option (List ℕ)) (status : ℕ) → Begins (stream a b) printed → status ≡ 3 → TellsNotPrinted (stream e f)
      → IsFollowed path part (stream a b) (stream d f) status
  unwritten_stops f status begins three told =
      record { printed = printed; are = are; told = e; seams = seams; stops = NotPrinted three begins told }

  pub memory_stops : (f : Option (List ℕ)) (status : ℕ) → Gets (stream a b) printed → status ≡ 4 → Begins (stream e f) (codes "memory\n")
      → IsFollowed path part (stream a b) (stream d f) status
  memory_stops f status gets four told =
      record { printed = printed; are = are; told = e; seams = seams; stops = OutOfMemory four gets told }

  pub unread_stops : (f : Option (List ℕ)) (status : ℕ) → Gets (stream a b) printed
      → IsToldOrNoMemory (TellsUnread path (stream e f)) (stream e f) status → IsFollowed path part (stream a b) (stream d f) status
  unread_stops f status gets fault =
      elim fault [
        | inl told ↦ record { printed = printed; are = are; told = e; seams = seams; stops = NotRead told.0 gets told.1 }
        | inr memory ↦ memory_stops f status gets memory.0 memory.1
      ]
