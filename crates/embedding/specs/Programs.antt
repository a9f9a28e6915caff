-- What one call makes of a program, by the frame that it was made with, the code that it answered and the frame behind it; and why one is
-- refused.
use Rattle.std.specs.Prelude.{◌≡◌, ◌≢◌, ◌<◌, ℕ, Bool, true, false, ◌==◌, MatchBool, List, [], ◌∷◌, ◌++◌, length, Some, None}
use Rattle.std.specs.List.{list_any}
use Rattle.access_slots.specs.declared.op.Op.{Op}
use Rattle.access_slots.specs.declared.op.Said.{Said}
use Rattle.interpreter.specs.declared.pause.Pause.{Pause}
use Rattle.interpreter.specs.declared.pause.Pause.TheVariants as pause
use Rattle.bpf_encoding.specs.Named.{code_named}
use Rattle.embedding.specs.Frames.{Names, Says, SaysNothing, HasArgs, args_in}
use Rattle.embedding.specs.Gathering.{GatheredBy, IsAsGathered, checked_of, IsProcedure, IsNoProcedure, WhyNoBytes, WhyNoSlot}
use Rattle.embedding.specs.Running.{Held, WaitsBehind, StopsAt, Takes}
use Rattle.embedding.specs.declared.call.TheConstants.{BYTES, SLOT, CLEAR, VERIFY, RUN, RESUME}
use Rattle.embedding.specs.declared.codes.TheConstants.{ARGUMENT_COUNT, BAD_FRAME, NO_PROCEDURE, NO_SUCH_CALL, NOTHING_OPEN, STRANGER}
use Rattle.embedding.specs.declared.code_part.CodePart.{CodePart}
use Rattle.embedding.specs.declared.frame.Frame.{Frame}

abbrev pub ShowsPause : Frame → Pause → Type 0
ShowsPause f (pause.Ask o) = Names f o
ShowsPause f (pause.Exit v) = (f.op ≡ 0) × (f.word ≡ v)

-- the frame says where a run stopped, and after how many instructions
abbrev pub IsStop : Frame → Pause → ℕ → Type 0
IsStop f p taken = ShowsPause f p × (f.place ≡ taken)

-- what was handed in is the program, which isn't running
pub record Accepts (c : CodePart) (f : Frame) (c' : CodePart) (f' : Frame) : Type 0 where
  pub fine : IsProcedure c.gathered.bytes.items c.gathered.slots.items f.word
  pub slots : f'.word ≡ length (code_named c.gathered.bytes.items)
  pub is : c'.program ≡ Some (record { code = checked_of c.gathered.bytes.items c.gathered.slots.items f.word; run = None })

-- the program runs with the arguments in the frame to its first question or its end
pub record Starts (c : CodePart) (f : Frame) (c' : CodePart) (f' : Frame) : Type 0 where
  pub before : Held
  pub was : c.program ≡ Some before
  pub few : HasArgs f
  pub count : length (args_in f) ≡ before.code.decl.args
  pub after : Held
  pub is : c'.program ≡ Some after
  pub same : after.code ≡ before.code
  pub p : Pause
  pub stops : StopsAt after.code (args_in f) [] p f'.place after.run
  pub told : ShowsPause f' p

-- no program was accepted, there are more arguments than a frame has room for, or another number than it takes
pub data WhyNotStarted (c : CodePart) (f : Frame) (code : ℕ) : Type 0 where
  Unaccepted : code ≡ NO_PROCEDURE → c.program ≡ None → WhyNotStarted c f code
  TooMany : code ≡ BAD_FRAME → (p : Held) → c.program ≡ Some p → 8 < f.count → WhyNotStarted c f code
  Others : code ≡ ARGUMENT_COUNT → (p : Held) → c.program ≡ Some p → HasArgs f → length (args_in f) ≢ p.code.decl.args
      → WhyNotStarted c f code

-- its run goes on with what the frame says
pub record GoesOn (c : CodePart) (f : Frame) (c' : CodePart) (f' : Frame) : Type 0 where
  pub before : Held
  pub was : c.program ≡ Some before
  pub after : Held
  pub is : c'.program ≡ Some after
  pub same : after.code ≡ before.code
  pub said : Said
  pub says : Says f said
  pub takes : Takes before.run said
  pub p : Pause
  pub stops : (args : List ℕ) (answers : List Said) (o : Op) → WaitsBehind before.code args answers o before.run
      → StopsAt after.code args (answers ++ said ∷ []) p f'.place after.run
  pub told : ShowsPause f' p

-- no program was accepted, its run waits for nothing, the frame says no answer, or this is none to the question
pub data WhyNotGoneOn (c : CodePart) (f : Frame) (code : ℕ) : Type 0 where
  Unaccepted : code ≡ NO_PROCEDURE → c.program ≡ None → WhyNotGoneOn c f code
  Idle : code ≡ NOTHING_OPEN → (p : Held) → c.program ≡ Some p → p.run ≡ None → WhyNotGoneOn c f code
  Unsaid : code ≡ BAD_FRAME → (p : Held) → c.program ≡ Some p → p.run ≢ None → SaysNothing f → WhyNotGoneOn c f code
  Strange : code ≡ STRANGER → (p : Held) → c.program ≡ Some p → p.run ≢ None → (said : Said) → Says f said → ¬ (Takes p.run said)
      → WhyNotGoneOn c f code

-- the calls that a program has
abbrev pub is_code_call : ℕ → Bool
is_code_call what = list_any (λ c. what == c) (BYTES ∷ SLOT ∷ CLEAR ∷ VERIFY ∷ RUN ∷ RESUME ∷ [])

-- what a call has done that answered 0, by its number; one that isn't named here leaves the program as it was
abbrev pub RunBy : ℕ → CodePart → Frame → CodePart → Frame → Type 0
RunBy what c f c' f' =
    MatchBool (what == VERIFY) (Accepts c f c' f')
    (MatchBool (what == RUN) (Starts c f c' f')
    (MatchBool (what == RESUME) (GoesOn c f c' f')
    (c'.program ≡ c.program)))

-- why a call is refused, by its number; one that isn't named here only where there is no such call
abbrev pub UnrunBy : ℕ → CodePart → Frame → ℕ → Frame → Type 0
UnrunBy what c f code f' =
    MatchBool (what == BYTES) (WhyNoBytes c.gathered f code)
    (MatchBool (what == SLOT) (WhyNoSlot c.gathered f code)
    (MatchBool (what == VERIFY) (IsNoProcedure c.gathered f code f')
    (MatchBool (what == RUN) (WhyNotStarted c f code)
    (MatchBool (what == RESUME) (WhyNotGoneOn c f code)
    ((code ≡ NO_SUCH_CALL) × (is_code_call what ≡ false))))))

-- refused means unchanged
pub record IsRun (c : CodePart) (f : Frame) (code : ℕ) (c' : CodePart) (f' : Frame) : Type 0 where
  pub refused : code ≢ 0 → c'.program ≡ c.program
  pub why : code ≢ 0 → UnrunBy f.what c f code f'
  pub known : code ≡ 0 → is_code_call f.what ≡ true
  pub done : code ≡ 0 → RunBy f.what c f c' f'
  pub gathers : code ≡ 0 → GatheredBy f.what c.gathered f c'.gathered
  pub gathers_nothing : code ≢ 0 → IsAsGathered c.gathered c'.gathered
