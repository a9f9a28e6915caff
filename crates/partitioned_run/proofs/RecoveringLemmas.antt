-- What the calls of partitions go on from.
use Rattle.std.proofs.Common.{arith, inl, inr, ◌≡◌, ◌∙◌, ◌<◌, ◌+◌, ◌==◌, ℕ, suc, Bool, true, false, List, [], ◌∷◌}
use Rattle.std.proofs.Common.{◌++◌, length, get_or, refl, sym, ap, ap₂, subst}
use Rattle.std.specs.Prelude.{◌&&◌, Option, Some, None, is_some, slice_get, string_bytes, All}
use Rattle.std.specs.declared.alloc.Global.{Global}
use Rattle.std.specs.declared.string.String.{String}
use Rattle.std.proofs.lemmas.List.{length-append}
use Rattle.std.proofs.lemmas.Option.{slice_get-get_or}
use Rattle.audit.proofs.GivenLemmas.{push_at}
use Rattle.data_component.specs.Store.{Store}
use Rattle.partitions.specs.Partitions.{partition_at}
use Rattle.tc_core.specs.Core.{Core}
use Rattle.run_ground.specs.Kept.{FileJournal, KeepsLog}
use Rattle.run_ground.specs.declared.ground.Ground.{Ground}
use Rattle.run_log.specs.declared.recovering.OpenLog.{OpenLog}
use Rattle.run_log.specs.declared.recovering.RecoveredRun.{RecoveredRun}
use Rattle.run_log.specs.Recovering.{IsBackFrom, IsOpened}
use Rattle.log_file.specs.Found.{base_in}
use Rattle.partitioned_run.specs.Belonging.{IsLogOfPartition}
use Rattle.partitioned_run.specs.declared.grounds.Start.{Start}
use Rattle.partitioned_run.specs.Logged.{front_by, front_lines, front_of, AreStarts, IsBackAt, IsStart}
use Rattle.partitioned_run.specs.Joining.Dividing.{IsKeptIf}
use Rattle.partitioned_run.specs.Joining.Recovering.{IsRecovered, IsRecoveredFrom, IsRefusedAt}
use Rattle.script_loading.specs.Loading.{begun, empty_stores}
use Rattle.run_log.specs.declared.recovering.Recovery.{Recovery}
use Rattle.run_log.specs.declared.recovering.Recovery.TheVariants.{Ready, Refused}
use Rattle.scripts.specs.Reading.{Contents}

-- what a list has at a place
pub found_at : {X : Type 0} (xs : List X) (p : ℕ) → p < length xs → (x : X) × (slice_get xs p ≡ Some x)
found_at [] p lt = absurd (omega (arith, lt))
found_at (x ∷ xs) p lt = (get_or (x ∷ xs) p x, slice_get-get_or (x ∷ xs) p x lt)

-- one partition more
starts_push : (keeps : Bool) (start : Core) (empties : List Store) (numbers : List ℕ) (starts : List Start) (s : Start) (number : ℕ)
    → length starts ≡ number → AreStarts keeps start empties numbers starts → s.number ≡ number
    → IsStart start empties numbers number (keeps && (partition_at numbers number == number)) s.ground s.lines
    → AreStarts keeps start empties numbers (starts ++ s ∷ [])
starts_push keeps start empties numbers starts s number long are named is = λ p t found.
    elim (push_at starts s p t found) [
      | inl before ↦ are p t before
      | inr last ↦
          let at : number ≡ p = sym long ∙ sym last.0 in
          subst (λ (u : Start). (u.number ≡ p) × IsStart start empties numbers p (keeps && (partition_at numbers p == p)) u.ground u.lines) last.1
          (named ∙ at, subst (λ (n : ℕ). IsStart start empties numbers n (keeps && (partition_at numbers n == n)) s.ground s.lines) at is)
    ]

pub starts_more : (keeps : Bool) (start : Core) (empties : List Store) (numbers : List ℕ) (starts new : List Start) (s : Start) (number : ℕ)
    → new ≡ starts ++ s ∷ [] → length starts ≡ number → AreStarts keeps start empties numbers starts → s.number ≡ number
    → IsStart start empties numbers number (keeps && (partition_at numbers number == number)) s.ground s.lines
    → (length new ≡ number + 1) × AreStarts keeps start empties numbers new
starts_more keeps start empties numbers starts new s number pushed long are named is = (
  ap length pushed ∙ omega (arith, length-append starts (s ∷ []), long),
  subst (AreStarts keeps start empties numbers) (sym pushed) (starts_push keeps start empties numbers starts s number long are named is),
)

-- without files nothing comes back
pub no_start : (start : Core) (empties : List Store) (numbers : List ℕ) (p : ℕ) (g : Option Ground) (lines : String Global)
    → IsStart start empties numbers p false g lines → (g ≡ None) × (string_bytes lines ≡ [])
no_start start empties numbers p None lines is = (refl, is)
no_start start empties numbers p (Some g) lines is = absurd is

-- what came back has a journal that has kept its log
kept_start : (start : Core) (empties : List Store) (numbers : List ℕ) (p : ℕ) (b : Bool) (g : Option Ground) (lines : String Global)
    → IsStart start empties numbers p b g lines → IsKeptIf g
kept_start start empties numbers p false None lines is = tt
kept_start start empties numbers p false (Some g) lines is = absurd is
kept_start start empties numbers p true None lines is = absurd is
kept_start start empties numbers p true (Some g) lines is = (
  ap is_some is.journal_is,
  subst (λ (j : Option FileJournal). KeepsLog j g.state.events) (sym is.journal_is) is.back.from.is_back.kept,
)

pub kept_starts : (keeps : Bool) (start : Core) (empties : List Store) (numbers : List ℕ) (starts : List Start)
    → AreStarts keeps start empties numbers starts → All (λ (s : Start). IsKeptIf s.ground) starts
kept_starts keeps start empties numbers starts are = λ k d lt.
    let s = get_or starts k d in
    kept_start start empties numbers k (keeps && (partition_at numbers k == k)) s.ground s.lines (are k s (slice_get-get_or starts k d lt)).1

-- nothing stands in front of the answers then
no_front : (s : Start) → string_bytes s.lines ≡ [] → front_of s ≡ []
no_front s none = ap (front_by s.number) none

fronts_none : (starts : List Start) → ((p : ℕ) (s : Start) → slice_get starts p ≡ Some s → string_bytes s.lines ≡ []) → front_lines starts ≡ []
fronts_none [] none = refl
fronts_none (s ∷ starts) none =
    ap₂ (λ (x y : List ℕ). x ++ y) (no_front s (none 0 s refl)) (fronts_none starts (λ p t is. none (suc p) t is))

pub no_fronts : (start : Core) (empties : List Store) (numbers : List ℕ) (starts : List Start) → AreStarts false start empties numbers starts
    → front_lines starts ≡ []
no_fronts start empties numbers starts are = fronts_none starts (λ p s is. (no_start start empties numbers p s.ground s.lines (are p s is).1).1)

-- ---- one partition that has a file

-- a log that was opened, and is the partition's, was gone on from
pub back_at : (start : Core) (empties : List Store) (numbers : List ℕ) (p : ℕ) (o : OpenLog) (g : Ground) (b : RecoveredRun) → IsOpened start o
    → g.journal ≡ Some b.journal → IsBackFrom start empties (base_in o.base) o.log.events g.state g.dcs.items b
    → IsLogOfPartition numbers start.procs p (base_in o.base) o.log.events → IsBackAt start empties numbers p g b.lines
back_at start empties numbers p o g b opened journal_is from own = record {
  journal = b.journal;
  journal_is = journal_is;
  back = record { file = opened.file; base = base_in o.base; log = o.log.events; is_log = opened.is_log; from = from };
  own = own;
}

pub same_number : (a b : ℕ) → a ≡ b → (a == b) ≡ true
same_number a b is = grind (arith, is)

recovered_at : (c : Contents) (keeps : Bool) (numbers : List ℕ) (number : ℕ) (start : Core) (empties : List Store) (x : Recovery Start)
    → (keeps && (partition_at numbers number == number)) ≡ true → start ≡ begun c → empties ≡ empty_stores c → keeps ≡ true
    → IsRecoveredFrom start empties numbers number x → IsRecovered c keeps numbers number x
recovered_at c keeps numbers number start empties (Ready s) has_file state dcs kept h = (
  h.0,
  subst (λ (b : Bool). IsStart (begun c) (empty_stores c) numbers number b s.ground s.lines) (sym has_file)
      (subst (λ (d : List Store). IsStart (begun c) d numbers number true s.ground s.lines) dcs
      (subst (λ (f : Core). IsStart f empties numbers number true s.ground s.lines) state h.1)),
)
recovered_at c keeps numbers number start empties (Refused report) has_file state dcs kept h = (
  kept,
  subst (λ (d : List Store). IsRefusedAt (begun c) d numbers number report) dcs
      (subst (λ (f : Core). IsRefusedAt f empties numbers number report) state h),
)

pub recovered_so : (c : Contents) (keeps : Bool) (numbers : List ℕ) (number : ℕ) (start : Core) (empties : List Store) (x : Recovery Start)
    → keeps ≡ true → (partition_at numbers number == number) ≡ true → start ≡ begun c → empties ≡ empty_stores c
    → IsRecoveredFrom start empties numbers number x → IsRecovered c keeps numbers number x
recovered_so c keeps numbers number start empties x kept named state dcs h =
    recovered_at c keeps numbers number start empties x (rw (kept, named) refl) state dcs kept h
