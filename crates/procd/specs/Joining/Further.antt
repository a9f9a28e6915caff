-- Why there is no report: no text was read, or a further file isn't read or written, which keeps a run's log, has procedures beside FILE or
-- is to have a picture.
use Rattle.std.specs.Prelude.{◌≡◌, ◌⊎◌, true, Bool, not, List, ℕ, Option, Some, None, option_map}
use Rattle.program_files.specs.Texts.{IsTextFault}
use Rattle.command_line.specs.Task.{Wish, Verify, World, Run, Partitioned, Log, Audit, Picture, reads_text}
use Rattle.object_file.specs.Elf.{is_elf}
use Rattle.script_loading.specs.declared.loading.Source.{Source}
use Rattle.procd.specs.declared.report.ReportFault.{ReportFault}
use Rattle.procd.specs.declared.report.ReportFault.TheVariants.{NotText, Unread, Unwritten, Partition, Memory}

-- the command reads the further file with this path
abbrev pub Reads : Wish → List ℕ → Type 0
Reads (World log audit script) path = script ≡ Some path
Reads (Run workers tries stats audit strict results tell metrics trace log checkpoint over script) path = (log ≡ Some path) ⊎ (script ≡ Some path)
Reads (Partitioned workers tries audit strict log script) path = script ≡ Some path
Reads (Log (Audit source script)) path = (source ≡ path) ⊎ (script ≡ Some path)
Reads other path = ⊥

-- it writes it
abbrev pub Writes : Wish → List ℕ → Type 0
Writes (Run workers tries stats audit strict results tell metrics trace log checkpoint over script) path = log ≡ Some path
Writes (Log (Picture file part)) path = file ≡ path
Writes other path = ⊥

-- it keeps the logs of partitions in files of this path, but for their numbers behind it
abbrev pub Keeps : Wish → List ℕ → Type 0
Keeps (Partitioned workers tries audit strict log script) path = log ≡ Some path
Keeps other path = ⊥

-- where a further file isn't read or written, it is the command's
abbrev pub IsTaskFault : Wish → ReportFault → Type 0
IsTaskFault wish (Unread path reason) = Reads wish path.now
IsTaskFault wish (Unwritten path reason) = Writes wish path.now
IsTaskFault wish (Partition log number stop) = Keeps wish log.now
IsTaskFault wish (NotText fault) = Unit {0}
IsTaskFault wish Memory = Unit {0}

-- the script of this path isn't read
abbrev pub IsScriptFault : List ℕ → ReportFault → Type 0
IsScriptFault path (Unread other reason) = Some path ≡ Some other.now
IsScriptFault path (Unwritten other reason) = ⊥
IsScriptFault path (Partition log number stop) = ⊥
IsScriptFault path (NotText fault) = ⊥
IsScriptFault path Memory = Unit {0}

-- the file of this path, which is to have a picture, isn't written
abbrev pub IsPictureFault : List ℕ → ReportFault → Type 0
IsPictureFault path (Unread other reason) = ⊥
IsPictureFault path (Unwritten other reason) = path ≡ other.now
IsPictureFault path (Partition log number stop) = ⊥
IsPictureFault path (NotText fault) = ⊥
IsPictureFault path Memory = Unit {0}

-- FILE is no text, or the script beside it isn't read
abbrev pub IsBesideFault : Option (List ℕ) → ReportFault → Type 0
IsBesideFault script (Unread path reason) = script ≡ Some path.now
IsBesideFault script (Unwritten path reason) = ⊥
IsBesideFault script (Partition log number stop) = ⊥
IsBesideFault script (NotText fault) = Unit {0}
IsBesideFault script Memory = Unit {0}

-- the same, or the log of the other path isn't read or kept
abbrev pub IsRunFault : (log script : Option (List ℕ)) → ReportFault → Type 0
IsRunFault log script (Unread path reason) = (log ≡ Some path.now) ⊎ (script ≡ Some path.now)
IsRunFault log script (Unwritten path reason) = log ≡ Some path.now
IsRunFault log script (Partition path number stop) = ⊥
IsRunFault log script (NotText fault) = Unit {0}
IsRunFault log script Memory = Unit {0}

-- or that of a partition is
abbrev pub IsApartFault : (log script : Option (List ℕ)) → ReportFault → Type 0
IsApartFault log script (Unread path reason) = script ≡ Some path.now
IsApartFault log script (Unwritten path reason) = ⊥
IsApartFault log script (Partition path number stop) = log ≡ Some path.now
IsApartFault log script (NotText fault) = Unit {0}
IsApartFault log script Memory = Unit {0}

-- the log of this path isn't read or kept
abbrev pub IsLogFault : Option (List ℕ) → ReportFault → Type 0
IsLogFault log (Unread path reason) = log ≡ Some path.now
IsLogFault log (Unwritten path reason) = log ≡ Some path.now
IsLogFault log (Partition path number stop) = ⊥
IsLogFault log (NotText fault) = Unit {0}
IsLogFault log Memory = Unit {0}

-- whether what was read has to be a text: a script that is verified, and no object file
abbrev pub wants_text : Wish → List ℕ → Bool
wants_text Verify file = not (is_elf file)
wants_text other file = reads_text other

-- no text was read only of bytes that aren't one, where a text is wanted
abbrev pub IsNoTextOf : Bool → List ℕ → ReportFault → Type 0
IsNoTextOf wanted bytes (NotText fault) = (wanted ≡ true) × IsTextFault bytes fault
IsNoTextOf wanted bytes other = Unit {0}

-- a text was read
abbrev pub IsOfText : ReportFault → Type 0
IsOfText (NotText fault) = ⊥
IsOfText other = Unit {0}

-- no further file is read or written
abbrev pub IsOfFile : ReportFault → Type 0
IsOfFile (Unread path reason) = ⊥
IsOfFile (Unwritten path reason) = ⊥
IsOfFile (Partition log number stop) = ⊥
IsOfFile other = Unit {0}

-- FILE as a script; or as an object file, with the script of a path
abbrev pub IsSourceOf : (script : Option (List ℕ)) → List ℕ → Source → Type 0
IsSourceOf None file source = (option_map (λ object. object.now) source.object ≡ None) × (source.text.now ≡ file)
IsSourceOf (Some path) file source = option_map (λ object. object.now) source.object ≡ Some file
