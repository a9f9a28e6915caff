-- The lines of steps.
use Rattle.std.specs.Prelude.{ℕ, List, ◌++◌, Result, Ok, Err, codes, decimal}
use Rattle.access_slots.specs.declared.op.Op.{Op}
use Rattle.access_slots.specs.declared.op.Wire.{Wire}
use Rattle.access_slots.specs.declared.op.News.{News}
use Rattle.tc_log.specs.declared.event.Outcome.{Outcome as Ending}
use Rattle.tc_world.specs.declared.step.Outcome.{Outcome}
use Rattle.tc_world.specs.declared.step.Outcome.TheVariants as outcome
use Rattle.tc_world.specs.declared.step.Illegal.{Illegal}
use Rattle.tc_world.specs.declared.step.Illegal.TheVariants as illegal
use Rattle.state_lines.specs.OperationTexts.{op_text, said_text, outcome_text}
use Rattle.state_lines.specs.RefusalTexts.{checkpoint_fault_text, refusal_text}

-- ---- steps that were taken

abbrev pub sent_line : ℕ → Wire → List ℕ
sent_line place x =
    codes "sent " ++ (decimal place ++ (codes " number " ++ (decimal x.number ++ (codes " " ++ (op_text x.op
    ++ (codes " low " ++ (decimal x.low_water ++ codes "\n")))))))

-- a request whose data component is down isn't sent
abbrev pub held_line : ℕ → Op → List ℕ
held_line number o = codes "held number " ++ (decimal number ++ (codes " " ++ (op_text o ++ codes "\n")))

abbrev pub told_line : ℕ → News → List ℕ
told_line dc news =
    codes "told " ++ (decimal dc ++ (codes " incarnation " ++ (decimal news.incarnation
    ++ (codes " mark " ++ (decimal news.mark ++ codes "\n")))))

abbrev pub redo_line : ℕ → Wire → List ℕ
redo_line place x =
    codes "redo " ++ (decimal place ++ (codes " number " ++ (decimal x.number ++ (codes " " ++ (op_text x.op ++ codes "\n")))))

abbrev pub ended_line : ℕ → ℕ → Ending → List ℕ
ended_line place txn how =
    codes "ended " ++ (decimal txn ++ (codes " " ++ (outcome_text how ++ (codes " at " ++ (decimal place ++ codes "\n")))))

abbrev pub outcome_line : Outcome → List ℕ
outcome_line (outcome.Admitted t) = codes "admitted " ++ (decimal t ++ codes "\n")
outcome_line (outcome.Sent place x) = sent_line place x
outcome_line (outcome.Held n o) = held_line n o
outcome_line (outcome.Undoing t) = codes "undoing " ++ (decimal t ++ codes "\n")
outcome_line (outcome.Over t) = codes "over " ++ (decimal t ++ codes "\n")
outcome_line (outcome.Stuck t n) = codes "stuck " ++ (decimal t ++ (codes " number " ++ (decimal n ++ codes "\n")))
outcome_line (outcome.Replied place x) =
    codes "reply " ++ (decimal place ++ (codes " number " ++ (decimal x.number ++ (codes " " ++ (said_text x.said ++ codes "\n")))))
outcome_line outcome.Silent = codes "silent\n"
outcome_line (outcome.Took n) = codes "took number " ++ (decimal n ++ codes "\n")
outcome_line (outcome.Ended r) = ended_line r.place r.txn r.outcome
outcome_line (outcome.Restarted d) = codes "restarted " ++ (decimal d ++ codes "\n")
outcome_line (outcome.Forged place) = codes "forged " ++ (decimal place ++ codes "\n")
outcome_line (outcome.Checkpointed d mark) = codes "checkpoint " ++ (decimal d ++ (codes " mark " ++ (decimal mark ++ codes "\n")))
outcome_line (outcome.Told d news) = told_line d news
outcome_line (outcome.Redoing place x) = redo_line place x
outcome_line (outcome.Redone n) = codes "redone number " ++ (decimal n ++ codes "\n")
outcome_line (outcome.Up d) = codes "up " ++ (decimal d ++ codes "\n")
outcome_line (outcome.Crashed events left) = codes "crashed " ++ (decimal events ++ (codes " open " ++ (decimal left ++ codes "\n")))
outcome_line (outcome.Cut admissions number) = codes "cut " ++ (decimal admissions ++ (codes " " ++ (decimal number ++ codes "\n")))

-- ---- steps that weren't possible

abbrev pub illegal_line : Illegal → List ℕ
illegal_line (illegal.Refused r) = codes "illegal I1 Refused " ++ (refusal_text r ++ codes "\n")
illegal_line illegal.NoTxn = codes "illegal I2 NoTxn\n"
illegal_line (illegal.Waits n) = codes "illegal I3 Waits " ++ (decimal n ++ codes "\n")
illegal_line illegal.Running = codes "illegal I4 Running\n"
illegal_line illegal.NotOver = codes "illegal I5 NotOver\n"
illegal_line illegal.NothingOpen = codes "illegal I6 NothingOpen\n"
illegal_line illegal.NoCopy = codes "illegal I7 NoCopy\n"
illegal_line illegal.NoReply = codes "illegal I8 NoReply\n"
illegal_line illegal.Stranger = codes "illegal I9 Stranger\n"
illegal_line illegal.NoDc = codes "illegal I10 NoDc\n"
illegal_line illegal.Memory = codes "illegal I11 Memory\n"
illegal_line illegal.IncarnationsSpent = codes "illegal I12 IncarnationsSpent\n"
illegal_line (illegal.Down d) = codes "illegal I13 Down " ++ (decimal d ++ codes "\n")
illegal_line illegal.NoNews = codes "illegal I14 NoNews\n"
illegal_line illegal.OldNews = codes "illegal I15 OldNews\n"
illegal_line illegal.NotDown = codes "illegal I16 NotDown\n"
illegal_line illegal.NotWritten = codes "illegal I17 NotWritten\n"
illegal_line illegal.Forgotten = codes "illegal I18 Forgotten\n"
illegal_line (illegal.NotCut fault) = codes "illegal I19 NotCut " ++ (checkpoint_fault_text fault ++ codes "\n")
illegal_line (illegal.Unforgettable d) = codes "illegal I20 Unforgettable " ++ (decimal d ++ codes "\n")

abbrev pub step_line : Result Outcome Illegal → List ℕ
step_line (Ok o) = outcome_line o
step_line (Err why) = illegal_line why
