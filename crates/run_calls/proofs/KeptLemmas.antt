-- What a run leaves in a journal, if there is one.
use Rattle.std.proofs.Common.{◌≡◌, ◌∙◌, ◌++◌, List, reverse, true, false, Option, Some, None, refl, sym, ap, subst}
use Rattle.std.proofs.lemmas.List.{reverse-append, reverse-reverse}
use Rattle.std.specs.Prelude.{is_some}
use Rattle.tc_log.specs.declared.event.Event.{Event}
use Rattle.disk_file.specs.Disk.{disk_bytes, left_of}
use Rattle.log_journal.specs.Keeping.{HasWritten}
use Rattle.journals.specs.Optional.{any_has, any_keeps}
use Rattle.worker_pool.specs.Journals.{HasKept}
use Rattle.run_ground.specs.Kept.{FileJournal, KeepsLog}

-- what is kept behind a log is the log that goes on from it
turned : (first behind now : List Event) → now ≡ reverse behind ++ first → reverse first ++ behind ≡ reverse now
turned first behind now is =
    sym (ap reverse is ∙ (reverse-append (reverse behind) first ∙ ap (λ (l : List Event). reverse first ++ l) (reverse-reverse behind)))

not_both : true ≡ false → ⊥
not_both bad = cc bad

-- one that is there keeps what it is given
pub keeps_if_there : (journal : Option FileJournal) → any_keeps (λ (j : FileJournal). true) journal ≡ is_some journal
keeps_if_there None = refl
keeps_if_there (Some j) = refl

-- it is there in the end as it was in the beginning
pub still_there : (journal now : Option FileJournal) → any_keeps (λ (j : FileJournal). true) now ≡ any_keeps (λ (j : FileJournal). true) journal
    → is_some now ≡ is_some journal
still_there None None same = refl
still_there None (Some n) same = same
still_there (Some j) None same = same
still_there (Some j) (Some n) same = refl

-- and has kept the log behind what it had
pub keeps_on : (journal now : Option FileJournal) (first last : List Event)
    → (any_keeps (λ (j : FileJournal). true) journal ≡ true
    → HasKept (any_has (λ (j : FileJournal) (events : List Event). HasWritten disk_bytes left_of j.header j.file events))
    (any_has (λ (j : FileJournal) (events : List Event). HasWritten disk_bytes left_of j.header j.file events) journal) now first last)
    → any_keeps (λ (j : FileJournal). true) now ≡ any_keeps (λ (j : FileJournal). true) journal → KeepsLog journal first → KeepsLog now last
keeps_on None None first last kept same was = tt
keeps_on None (Some n) first last kept same was = absurd (not_both same)
keeps_on (Some j) None first last kept same was = absurd (not_both (sym same))
keeps_on (Some j) (Some n) first last kept same was =
    let k = kept refl in
    subst (HasWritten disk_bytes left_of n.header n.file) (turned first k.behind last k.log) (k.kept (reverse first) was)
