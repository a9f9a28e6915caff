-- A run of verified code without slots.
use Rattle.std.proofs.Common.{rules, ◌≡◌, ◌≤◌, ℕ, ◌∙◌, ap, ap₂, sym, length, refl, subst, Some, None, Option, List, []}
use Rattle.std.specs.Prelude.{slice_get, nat_lt, Bool, true, false, ◌<◌}
use Rattle.access_slots.specs.Declaration.{Declaration}
use Rattle.access_slots.specs.declared.op.Op.{Op}
use Rattle.access_slots.specs.declared.slot.Slot.{Slot}
use Rattle.semantics.specs.Step.{Config, Setting, Bases}
use Rattle.semantics.specs.Reach.{Stop, Asked, Exited, reach, IsFineStop, IsLayout, IsBySlot}
use Rattle.semantics.specs.Row.{outcome, outcome_of, plain_bases}
use Rattle.semantics.specs.Instruction.{program_of}
use Rattle.bpf_encoding.specs.Fields.{Fields}
use Rattle.bpf_encoding.specs.Named.{code_named}
use Rattle.bpf_encoding.specs.Spells.{Spells, fault_in}
use Rattle.bpf_encoding.specs.declared.decode.DecodeFault.{DecodeFault}
use Rattle.register_kinds.specs.declared.kind.Violation.{Violation}
use Rattle.bpf_encoding.specs.declared.insn.Place.{Place}
use Rattle.verifier.specs.Checked.{Checked}
use Rattle.verifier.specs.Verdict.{verdict}
use Rattle.interpreter.specs.Runs.{setting_of}
use Rattle.text_commands.specs.Execution.{answered, without_slots, execution_by_verdict, execution_by_count, execution_by_fault, execution_of}
use Rattle.text_commands.specs.declared.execute.Execution.{Execution}
use Rattle.text_commands.specs.declared.execute.Execution.TheVariants.{TooManyArgs, Refused}

pub plain_layout : IsLayout plain_bases
plain_layout = record { sixteen = refl; apart = refl }

-- what exits has that value and count
pub exits : (s : Stop) (value executed : ℕ) (c : Config) → s ≡ Exited value c → executed ≡ c.taken → outcome s ≡ Some (value, executed)
exits s value executed c e n = ap outcome e ∙ ap (λ (k : ℕ). Some (value, k)) (sym n)

no_slot : (args : List ℕ) (o : Option Slot) (operation : Op) → o ≡ None → IsBySlot args o operation → ⊥
no_slot args o operation e h = subst (λ (p : Option Slot). IsBySlot args p operation) e h

slot_none : (slots : List Slot) (k : ℕ) → slots ≡ [] → slice_get slots k ≡ None
slot_none slots k e = ap (λ (ss : List Slot). slice_get ss k) e

-- where no slot is declared, nothing is asked
pub never_asks : (s : Setting) (stop : Stop) (slot : ℕ) (operation : Op) (c : Config) → s.program.decl.slots ≡ []
    → IsFineStop s stop → stop ≡ Asked slot operation c → ⊥
never_asks s stop slot operation c none fine e = no_slot s.args (slice_get s.program.decl.slots slot) operation (slot_none s.program.decl.slots slot none) (subst (IsFineStop s) e fine).0

-- what holds at the same arguments and addresses
pub at_same : (P : List ℕ → Bases → Type 0) (args args' : List ℕ) (b b' : Bases) → args' ≡ args → b' ≡ b → P args' b' → P args b
at_same P args args' b b' ea eb h = subst (λ (a : List ℕ). P a b) ea (subst (P args') eb h)

abbrev program : List Place → Declaration → List ℕ → Setting
program code decl args = record { program = program_of code decl; args = args; bases = plain_bases }

same_program : (v : Checked) (code : List Place) (args : List ℕ) → v.code ≡ code
    → v.decl ≡ without_slots (length args)
    → program v.code v.decl args ≡ program code (without_slots (length args)) args
same_program v code args ec ed = ap₂ (λ (x : List Place) (d : Declaration). program x d args) ec ed

-- ---- what bytes that name this code come to

few_args : (n : ℕ) → n ≤ 8 → nat_lt 8 n ≡ false
few_args n few = search rules

many_args : (n : ℕ) → 8 < n → nat_lt 8 n ≡ true
many_args n many = search rules

-- as many arguments as are allowed
with_few : (bytes args : List ℕ) → fault_in bytes ≡ None → length args ≤ 8
    → execution_of bytes args ≡ execution_by_verdict (verdict (without_slots (length args)) (code_named bytes)) bytes args
with_few bytes args none few =
    ap (λ (o : Option DecodeFault). execution_by_fault o bytes args) none
    ∙ ap (λ (b : Bool). execution_by_count b bytes args) (few_args (length args) few)

pub too_many : (bytes args : List ℕ) → fault_in bytes ≡ None → 8 < length args → execution_of bytes args ≡ Some TooManyArgs
too_many bytes args none many =
    ap (λ (o : Option DecodeFault). execution_by_fault o bytes args) none
    ∙ ap (λ (b : Bool). execution_by_count b bytes args) (many_args (length args) many)

pub refused : (bytes args : List ℕ) (code : List Place) (decl : Declaration) (slot : ℕ) (violation : Violation)
    → fault_in bytes ≡ None → code ≡ code_named bytes → length args ≤ 8 → decl ≡ without_slots (length args)
    → verdict decl code ≡ Some (slot, violation) → execution_of bytes args ≡ Some (Refused slot violation)
refused bytes args code decl slot violation none named few declared is =
    with_few bytes args none few
    ∙ ap (λ (o : Option (ℕ × Violation)). execution_by_verdict o bytes args) (ap₂ verdict (sym declared) (sym named) ∙ is)

outcome_spelled : (bytes : List ℕ) (code : List Place) (args : List ℕ) → Spells bytes code
    → outcome_of bytes args ≡ outcome (reach (program code (without_slots (length args)) args) [])
outcome_spelled bytes code args spells =
    ap (λ (fs : List Fields). outcome (reach (record { program = record { code = fs; decl = without_slots (length args) }; args = args; bases = plain_bases }) [])) spells.fields

pub accepted : (v : Checked) (bytes : List ℕ) (code : List Place) (args : List ℕ) (e : Execution) → v.code ≡ code
    → v.decl ≡ without_slots (length args)
    → fault_in bytes ≡ None → code ≡ code_named bytes → Spells bytes code → length args ≤ 8 → verdict v.decl code ≡ None
    → answered (outcome (reach (setting_of v args plain_bases) [])) ≡ Some e → execution_of bytes args ≡ Some e
accepted v bytes code args e ec ed none named spells few is h =
    with_few bytes args none few
    ∙ ap (λ (o : Option (ℕ × Violation)). execution_by_verdict o bytes args) (ap₂ verdict (sym ed) (sym named) ∙ is)
    ∙ ap answered (outcome_spelled bytes code args spells ∙ ap (λ (s : Setting). outcome (reach s [])) (sym (same_program v code args ec ed)))
    ∙ h
