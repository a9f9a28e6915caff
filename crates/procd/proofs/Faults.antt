-- A fault is always among what a run may give.
use Rattle.std.proofs.Common.{arith, ◌≡◌, ℕ, List, Option, Some, None, Bool, [], refl, sym, subst, inl, inr, codes}
use Rattle.std.specs.Prelude.{IfSome, ◌≤◌, ◌⊎◌, ◌++◌, decimal}
use Rattle.disk_file.specs.declared.opening.FileKind.{FileKind}
use Rattle.run_log.specs.LogLines.{kind_refusal}
use Rattle.log_part.specs.declared.part.Part.{Part}
use Rattle.program_files.specs.Streams.{Stream, stream, IsKept, Begins, TellsUnread, TellsUnwritten, IsToldOrNoMemory}
use Rattle.program_files.specs.Following.{IsFollowed, StopsBehind, Refused, RefusedInPart, NotPrinted, NotRead, OutOfMemory}
use Rattle.procd.specs.Streams.{Ends, Runs, IsLog, IsRefusedBy, FurtherFails, ScriptFails, LogFails, PartFails, followed_part}
use Rattle.procd.specs.Joining.Further.{Keeps, Reads, Writes}
use Rattle.command_line.specs.Task.{Wish, Exec, Asm, Dis, Verify, World, Run, Partitioned, Log}
use Rattle.command_line.specs.Task.{Events, EventsAndRows, Follow, Audit, Picture}
use Rattle.procd.proofs.Statuses.{report_low}

-- some text that is there to be read
abbrev known : Option (List ℕ) → List ℕ
known None = []
known (Some text) = text

known_is : (input : Option (List ℕ)) → IfSome input (λ text. known input ≡ text)
known_is None = tt
known_is (Some text) = refl

module _ (file : List ℕ) (wish : Wish) (input : Option (List ℕ)) (out err : Stream) (status : ℕ) where
  pub no_memory_runs : status ≡ 4 → IsKept out → Begins err (codes "memory\n") → Runs file wish input out err status
  no_memory_runs is kept told = inl (known input, (λ e. known_is input), inr (inl (is, kept, told)), inr (inr (is, kept, told)))

  -- what is read is standard input, or a file that isn't followed; or it isn't a file of bytes, or it is followed
  pub read_runs : (followed_part wish ≡ None) ⊎ (file ≡ codes "-") → (text : List ℕ) → (file ≡ codes "-" → IfSome input (λ known. text ≡ known))
      → Ends file wish text out err status → Runs file wish input out err status
  read_runs way text same h = inl (text, same, h, elim way [ inl whole ↦ inl whole | inr is ↦ inr (inl is) ])

  pub unread_runs : (followed_part wish ≡ None) ⊎ (file ≡ codes "-") → IsToldOrNoMemory (TellsUnread file err) err status → IsKept out
      → Runs file wish input out err status
  unread_runs way fault kept =
      elim fault [
        | inl told ↦ read_runs way (known input) (λ e. known_is input) (inl (told.0, kept, told.1))
        | inr memory ↦ no_memory_runs memory.0 kept memory.1
      ]

  pub kind_runs : ¬ (file ≡ codes "-") → IsLog wish → (kind : FileKind) → IsRefusedBy (kind_refusal kind) out err status
      → Runs file wish input out err status
  kind_runs differs log kind refused = inr (differs, inl (log, (kind, refused)))

  pub followed_runs : ¬ (file ≡ codes "-") → (part : Part) → followed_part wish ≡ Some part → IsFollowed file part out err status
      → Runs file wish input out err status
  followed_runs differs part is followed = inr (differs, inr (part, is, followed))

-- a further file that isn't read is told, and so is one that isn't written
script_fails : (script : Option (List ℕ)) (path : List ℕ) (err : Stream) → script ≡ Some path → TellsUnread path err → ScriptFails script err
script_fails script path err is told = subst (λ (s : Option (List ℕ)). ScriptFails s err) (sym is) told

log_fails : (log : Option (List ℕ)) (path : List ℕ) (err : Stream) → log ≡ Some path → TellsUnread path err ⊎ TellsUnwritten path err → LogFails log err
log_fails log path err is told = subst (λ (l : Option (List ℕ)). LogFails l err) (sym is) told

read_fails : (wish : Wish) (path : List ℕ) (err : Stream) → Reads wish path → TellsUnread path err → FurtherFails wish err
read_fails (Exec raw numbers) path err is told = absurd is
read_fails Asm path err is told = absurd is
read_fails (Dis raw) path err is told = absurd is
read_fails Verify path err is told = absurd is
read_fails (World log audit script) path err is told = script_fails script path err is told
read_fails (Run workers tries stats audit strict results tell metrics trace log checkpoint over script) path err is told =
    elim is [ inl keeps ↦ inl (log_fails log path err keeps (inl told)) | inr beside ↦ inr (script_fails script path err beside told) ]
read_fails (Partitioned workers tries audit strict log script) path err is told = inr (script_fails script path err is told)
read_fails (Log (Events part)) path err is told = absurd is
read_fails (Log EventsAndRows) path err is told = absurd is
read_fails (Log (Follow part)) path err is told = absurd is
read_fails (Log (Audit source script)) path err is told =
    elim is [
      | inl same ↦ inl (subst (λ (s : List ℕ). TellsUnread s err) (sym same) told)
      | inr beside ↦ inr (script_fails script path err beside told)
    ]
read_fails (Log (Picture file part)) path err is told = absurd is

write_fails : (wish : Wish) (path : List ℕ) (err : Stream) → Writes wish path → TellsUnwritten path err → FurtherFails wish err
write_fails (Exec raw numbers) path err is told = absurd is
write_fails Asm path err is told = absurd is
write_fails (Dis raw) path err is told = absurd is
write_fails Verify path err is told = absurd is
write_fails (World log audit script) path err is told = absurd is
write_fails (Run workers tries stats audit strict results tell metrics trace log checkpoint over script) path err is told = inl (log_fails log path err is (inr told))
write_fails (Partitioned workers tries audit strict log script) path err is told = absurd is
write_fails (Log (Events part)) path err is told = absurd is
write_fails (Log EventsAndRows) path err is told = absurd is
write_fails (Log (Follow part)) path err is told = absurd is
write_fails (Log (Audit source script)) path err is told = absurd is
write_fails (Log (Picture file part)) path err is told = subst (λ (s : List ℕ). FurtherFails (Log (Picture s part)) err) (sym is) told

-- the file of a partition
pub part_unread : (log path : List ℕ) (number : ℕ) (err : Stream) (status : ℕ) → path ≡ log ++ (codes "." ++ decimal number)
    → IsToldOrNoMemory (TellsUnread path err) err status → IsToldOrNoMemory (PartFails (Some log) err) err status
part_unread log path number err status is told =
    elim told [ inl t ↦ inl (t.0, (number, inl (subst (λ (p : List ℕ). TellsUnread p err) is t.1))) | inr memory ↦ inr memory ]

pub part_unwritten : (log path : List ℕ) (number : ℕ) (err : Stream) (status : ℕ) → path ≡ log ++ (codes "." ++ decimal number)
    → IsToldOrNoMemory (TellsUnwritten path err) err status → IsToldOrNoMemory (PartFails (Some log) err) err status
part_unwritten log path number err status is told =
    elim told [ inl t ↦ inl (t.0, (number, inr (subst (λ (p : List ℕ). TellsUnwritten p err) is t.1))) | inr memory ↦ inr memory ]

keep_fails : (wish : Wish) (log : List ℕ) (err : Stream) → Keeps wish log → PartFails (Some log) err → FurtherFails wish err
keep_fails (Exec raw numbers) log err is told = absurd is
keep_fails Asm log err is told = absurd is
keep_fails (Dis raw) log err is told = absurd is
keep_fails Verify log err is told = absurd is
keep_fails (World l audit script) log err is told = absurd is
keep_fails (Run workers tries stats audit strict results tell metrics trace l checkpoint over script) log err is told = absurd is
keep_fails (Partitioned workers tries audit strict l script) log err is told = inl (subst (λ (o : Option (List ℕ)). PartFails o err) (sym is) told)
keep_fails (Log wanted) log err is told = absurd is

module _ (file : List ℕ) (wish : Wish) (text : List ℕ) (out err : Stream) (status : ℕ) where
  no_memory_ends : status ≡ 4 → IsKept out → Begins err (codes "memory\n") → Ends file wish text out err status
  no_memory_ends is kept told = inr (inl (is, kept, told))

  pub no_text_ends : IsToldOrNoMemory (TellsUnread file err) err status → IsKept out → Ends file wish text out err status
  no_text_ends fault kept =
      elim fault [ inl told ↦ inl (told.0, kept, told.1) | inr memory ↦ no_memory_ends memory.0 kept memory.1 ]

  pub unread_ends : (path : List ℕ) → Reads wish path → IsToldOrNoMemory (TellsUnread path err) err status → IsKept out
      → Ends file wish text out err status
  unread_ends path of fault kept =
      elim fault [
        | inl told ↦ inr (inr (inl (told.0, kept, read_fails wish path err of told.1)))
        | inr memory ↦ no_memory_ends memory.0 kept memory.1
      ]

  pub unwritten_ends : (path : List ℕ) → Writes wish path → IsToldOrNoMemory (TellsUnwritten path err) err status → IsKept out
      → Ends file wish text out err status
  unwritten_ends path of fault kept =
      elim fault [
        | inl told ↦ inr (inr (inl (told.0, kept, write_fails wish path err of told.1)))
        | inr memory ↦ no_memory_ends memory.0 kept memory.1
      ]

  pub unkept_ends : (log : List ℕ) → Keeps wish log → IsToldOrNoMemory (PartFails (Some log) err) err status → IsKept out
      → Ends file wish text out err status
  unkept_ends log of fault kept =
      elim fault [
        | inl told ↦ inr (inr (inl (told.0, kept, keep_fails wish log err of told.1)))
        | inr memory ↦ no_memory_ends memory.0 kept memory.1
      ]

not_three : (result : ℕ) → result ≡ 3 → result ≡ 2 → ⊥
not_three result three two = omega (arith, three, two)

not_four : (result : ℕ) → result ≡ 4 → result ≡ 2 → ⊥
not_four result four two = omega (arith, four, two)

not_low : (result : ℕ) → result ≤ 1 → result ≡ 2 → ⊥
not_low result low two = omega (arith, low, two)

ends_otherwise : (file : List ℕ) (wish : Wish) (text : List ℕ) (out err : Stream) (status : ℕ)
    → Ends file wish text out err status → status ≡ 2 → ⊥
ends_otherwise file wish text out err status h is =
    elim h [
      | inl read ↦ not_three status read.0 is
      | inr rest ↦ elim rest [
        | inl memory ↦ not_four status memory.0 is
        | inr others ↦ elim others [
          | inl further ↦ not_three status further.0 is
          | inr last ↦ elim last [
            | inl write ↦ not_three status write.3 is
            | inr done ↦ not_low status (report_low wish text status done.0 done.1) is
          ]
        ]
      ]
    ]

not_one : (result : ℕ) → result ≡ 1 → result ≡ 2 → ⊥
not_one result one two = omega (arith, one, two)

refused_otherwise : (line : List ℕ) (out err : Stream) (status : ℕ) → IsRefusedBy line out err status → status ≡ 2 → ⊥
refused_otherwise line out err status h is =
    elim h [
      | inl memory ↦ not_four status memory.0 is
      | inr others ↦ elim others [
        | inl write ↦ not_three status write.0 is
        | inr done ↦ not_one status done.0 is
      ]
    ]

stopped_otherwise : (path printed : List ℕ) (out err : Stream) (status : ℕ) → StopsBehind path printed out err status → status ≡ 2 → ⊥
stopped_otherwise path printed out err status (Refused file lines unread gets kept) is = not_one status unread.status_is is
stopped_otherwise path printed out err status (RefusedInPart file lines meant unread three begins told) is = not_three status three is
stopped_otherwise path printed out err status (NotPrinted three begins told) is = not_three status three is
stopped_otherwise path printed out err status (NotRead three gets told) is = not_three status three is
stopped_otherwise path printed out err status (OutOfMemory four gets told) is = not_four status four is

-- a command never ends as a wrong command line does
pub never_wrong : (file : List ℕ) (wish : Wish) (input : Option (List ℕ)) (out err : Stream) (status : ℕ)
    → Runs file wish input out err status → status ≡ 2 → ⊥
never_wrong file wish input out err status h is =
    elim h [
      | inl read ↦ ends_otherwise file wish read.0 out err status read.2 is
      | inr named ↦ elim named.1 [
        | inl kind ↦ refused_otherwise (kind_refusal kind.1.0) out err status kind.1.1 is
        | inr followed ↦ stopped_otherwise file followed.2.printed out (stream followed.2.told err.new) status followed.2.stops is
      ]
    ]
