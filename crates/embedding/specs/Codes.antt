-- The numbers of refusals, a letter and a number in one word, and the place that is told beside one.
use Rattle.std.specs.Prelude.{ℕ}
use Rattle.access_slots.specs.declared.decl.DeclFault.{DeclFault}
use Rattle.access_slots.specs.declared.decl.DeclFault.TheVariants as decl
use Rattle.bpf_encoding.specs.declared.decode.DecodeFault.{DecodeFault}
use Rattle.bpf_encoding.specs.declared.decode.DecodeFault.TheVariants as decode
use Rattle.register_kinds.specs.declared.kind.Violation.{Violation}
use Rattle.register_kinds.specs.declared.kind.Violation.TheVariants as violation
use Rattle.tc_core.specs.declared.beginning.CheckpointFault.{CheckpointFault}
use Rattle.tc_core.specs.declared.beginning.CheckpointFault.TheVariants as anew
use Rattle.tc_core.specs.declared.checking.CheckFault.TheVariants as check
use Rattle.tc_core.specs.declared.recovery.RecoverFault.{RecoverFault}
use Rattle.tc_core.specs.declared.recovery.RecoverFault.TheVariants as recover
use Rattle.tc_core.specs.declared.state.NewsFault.{NewsFault}
use Rattle.tc_core.specs.declared.state.NewsFault.TheVariants as news
use Rattle.engine_log.specs.declared.ahead.AheadFault.{AheadFault}
use Rattle.engine_log.specs.declared.ahead.AheadFault.TheVariants as ahead
use Rattle.engine_log.specs.declared.back.BackFault.{BackFault}
use Rattle.engine_log.specs.declared.back.BackFault.TheVariants as back
use Rattle.frame_file.specs.declared.reading.FrameFault.TheVariants as frames
use Rattle.log_file.specs.declared.reading.OpenFault.{OpenFault}
use Rattle.log_file.specs.declared.reading.OpenFault.TheVariants as opening
use Rattle.tc_log.specs.declared.read.LogFault.{LogFault}
use Rattle.tc_log.specs.declared.read.LogFault.TheVariants as read

-- E1 to E7; W5 where memory ran out
abbrev pub decode_number : DecodeFault → ℕ
decode_number decode.NoCode = 0x4501
decode_number decode.Length = 0x4502
decode_number decode.TooLong = 0x4503
decode_number (decode.WideCut slot) = 0x4504
decode_number (decode.UnusedField slot) = 0x4505
decode_number (decode.Undefined slot) = 0x4506
decode_number (decode.OutsideProfile slot which) = 0x4507
decode_number decode.Memory = 0x5705

-- the slot of the code
abbrev pub decode_place : DecodeFault → ℕ
decode_place decode.NoCode = 0
decode_place decode.Length = 0
decode_place decode.TooLong = 0
decode_place (decode.WideCut slot) = slot
decode_place (decode.UnusedField slot) = slot
decode_place (decode.Undefined slot) = slot
decode_place (decode.OutsideProfile slot which) = slot
decode_place decode.Memory = 0

-- V1 to V14
abbrev pub violation_number : Violation → ℕ
violation_number violation.Backward = 0x5601
violation_number violation.OutOfCode = 0x5602
violation_number violation.IntoWide = 0x5603
violation_number violation.FallsOff = 0x5604
violation_number violation.EmptyRegister = 0x5605
violation_number violation.WritesR10 = 0x5606
violation_number violation.NotAPointer = 0x5607
violation_number violation.OutOfBounds = 0x5608
violation_number violation.ReadOnly = 0x5609
violation_number violation.MaybeNull = 0x560a
violation_number violation.UnknownHelper = 0x560b
violation_number violation.SlotUnknown = 0x560c
violation_number violation.ModeTooWeak = 0x560d
violation_number violation.PointerReturned = 0x560e

-- S1 to S3
abbrev pub decl_number : DeclFault → ℕ
decl_number decl.TooManyArgs = 0x5301
decl_number decl.TooManySlots = 0x5302
decl_number (decl.NoSuchArg slot) = 0x5303

-- the slot of the declaration
abbrev pub decl_place : DeclFault → ℕ
decl_place decl.TooManyArgs = 0
decl_place decl.TooManySlots = 0
decl_place (decl.NoSuchArg slot) = slot

-- I10, I15, Q3
abbrev pub news_number : NewsFault → ℕ
news_number news.NoDc = 0x490a
news_number news.OldNews = 0x490f
news_number news.Forgotten = 0x5103

-- G1 to G6
abbrev pub checkpoint_number : CheckpointFault → ℕ
checkpoint_number anew.Nothing = 0x4701
checkpoint_number (anew.Open n) = 0x4702
checkpoint_number anew.DcCount = 0x4703
checkpoint_number anew.Down = 0x4704
checkpoint_number anew.Behind = 0x4705
checkpoint_number anew.Spent = 0x4706

-- L1, L2; W5
abbrev pub read_number : LogFault → ℕ
read_number read.Length = 0x4c01
read_number (read.Kind row) = 0x4c02
read_number read.Memory = 0x5705

-- the row
abbrev pub read_place : LogFault → ℕ
read_place read.Length = 0
read_place (read.Kind row) = row
read_place read.Memory = 0

-- R1, R2, U1, Q3; W5
abbrev pub recover_number : RecoverFault → ℕ
recover_number recover.Begun = 0x5201
recover_number recover.DcCount = 0x5202
recover_number (recover.Unfit (check.LogIllegal place)) = 0x5501
recover_number (recover.Unfit check.Memory) = 0x5705
recover_number (recover.Forgotten dc) = 0x5103

-- the place in the log, or the data component
abbrev pub recover_place : RecoverFault → ℕ
recover_place recover.Begun = 0
recover_place recover.DcCount = 0
recover_place (recover.Unfit (check.LogIllegal place)) = place
recover_place (recover.Unfit check.Memory) = 0
recover_place (recover.Forgotten dc) = dc

-- F3, F6; W5
abbrev pub ahead_number : AheadFault → ℕ
ahead_number ahead.Memory = 0x5705
ahead_number ahead.Others = 0x4603
ahead_number ahead.Full = 0x4606

-- F1, F2, F4, F5, L2; W5
abbrev pub open_number : OpenFault → ℕ
open_number (opening.Frames (frames.Damaged frame)) = 0x4601
open_number (opening.Frames (frames.Device error)) = 0x5705
open_number (opening.Frames frames.Full) = 0x5705
open_number opening.Empty = 0x4602
open_number opening.Other = 0x4602
open_number (opening.NoBase frame) = 0x4604
open_number (opening.NoBatch frame) = 0x4605
open_number (opening.Row row) = 0x4c02

-- the frame or the row
abbrev pub open_place : OpenFault → ℕ
open_place (opening.Frames (frames.Damaged frame)) = frame
open_place (opening.Frames (frames.Device error)) = 0
open_place (opening.Frames frames.Full) = 0
open_place opening.Empty = 0
open_place opening.Other = 0
open_place (opening.NoBase frame) = frame
open_place (opening.NoBatch frame) = frame
open_place (opening.Row row) = row

-- F3, F7
abbrev pub back_number : BackFault → ℕ
back_number (back.Unread fault) = open_number fault
back_number back.Others = 0x4603
back_number back.Records = 0x4607

abbrev pub back_place : BackFault → ℕ
back_place (back.Unread fault) = open_place fault
back_place back.Others = 0
back_place back.Records = 0
