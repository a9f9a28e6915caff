-- Code with which nothing is wrong is safe.
use Rattle.std.proofs.Common.{◌≡◌, ℕ, zero, suc, ◌+◌, ◌-◌, ◌*◌, ◌<◌, ◌≤◌, ◌^◌, Bool, true, false, cond, ◌==◌, Option}
use Rattle.std.proofs.Common.{Some, None, Result, Ok, Err, List, [], ◌∷◌, ◌++◌, length, take, refl, sym, ap, ap₂, ◌∙◌}
use Rattle.std.proofs.Common.{subst, inl, inr, arith}
use Rattle.std.specs.Prelude.{ℤ, pos, ◌+ℤ◌, slice_get, count_by}
use Rattle.std.proofs.lemmas.List.Recursion.{is_count_by}
use Rattle.std.specs.List.{slice_index_or, flat_map}
use Rattle.std.specs.Int.{Width, w64, byte_len, from_le_bytes, to_le_bytes}
use Rattle.std.specs.Option.{option_map}
use Rattle.std.proofs.lemmas.List.{length-append, length-replicate}
use Rattle.std.proofs.lemmas.Option.{slice_get_within}
use Rattle.access_slots.specs.Access.{fits, is_no_room}
use Rattle.access_slots.specs.Declaration.{Declaration}
use Rattle.access_slots.specs.declared.op.Op.{Op}
use Rattle.access_slots.specs.declared.op.Said.{Said}
use Rattle.access_slots.specs.declared.op.Said.TheVariants as said
use Rattle.bpf_encoding.specs.Spelling.{number_of, fields_of}
use Rattle.bpf_encoding.specs.Reading.{is_64}
use Rattle.bpf_encoding.specs.declared.insn.Insn.{Insn}
use Rattle.bpf_encoding.specs.declared.insn.Insn.TheVariants.{Alu, Negate, MoveSigned, Order, LoadWide, Jump}
use Rattle.bpf_encoding.specs.declared.insn.Insn.TheVariants.{JumpLong, JumpIf, Load, LoadSigned, StoreImm, Store}
use Rattle.bpf_encoding.specs.declared.insn.Insn.TheVariants.{Atomic, Call, Exit}
use Rattle.bpf_encoding.specs.declared.insn.Place.{Place}
use Rattle.bpf_encoding.specs.declared.insn.Place.TheVariants as place
use Rattle.semantics.specs.Arithmetic.{width_of}
use Rattle.semantics.specs.Memory.{Memory, bytes_at, written}
use Rattle.semantics.specs.Step.{Config, EmptyRead, Step, Next, Ask, Done, Trap, Bases, Setting}
use Rattle.semantics.specs.Step.{address, step, register, need, put, place_of, goes_to, if_taken, loaded, stored}
use Rattle.semantics.specs.Step.{fetched, replaced}
use Rattle.semantics.specs.Reach.{Stop, Asked, Exited, Trapped, Unfinished, IsLayout, AreArguments, IsBySlot}
use Rattle.semantics.specs.Reach.{AnswersFit, FitsStop, buffer_regions, advance, onwards, on_from, run}
use Rattle.semantics.specs.Reach.{answered, reach, entry, from_step, IsFineStop, IsSafe, calls_helper, AsksAtMost}
use Rattle.semantics.specs.Reach.{AsksOnceByEach}
use Rattle.semantics.specs.Instruction.{instruction_step, program_of, setting, value_of, left_of, receiver, expected_of, exchanged_by}
use Rattle.semantics.proofs.Bridge.{slot_at, step-instruction, length-program}
use Rattle.semantics.proofs.Extended.{address_zero}
use Rattle.register_kinds.specs.declared.kind.Violation.{Violation}
use Rattle.register_kinds.specs.declared.kinds.Kinds.{Kinds}
use Rattle.register_kinds.specs.declared.kinds.Ways.{Ways}
use Rattle.register_kinds.specs.Kinds.{entry_kinds, kind_at}
use Rattle.register_kinds.specs.Transfer.{transfer_of}
use Rattle.register_kinds.specs.Arriving.{next_place, jump_offset, jump_place, along, along_ways, along_from}
use Rattle.register_kinds.specs.Arriving.{arriving, kinds_at, violation_of, violation_by, violation_at}
use Rattle.register_kinds.specs.Fitting.{Fits, AllFit, IsSetting, IsStanding, IsSound, WentOn, Shape, shapes, shapes_of, buffer_shapes}
use Rattle.register_kinds.proofs.Memory.{laid_of}
use Rattle.register_kinds.proofs.Sound.{step_sound}
use Rattle.verifier.specs.Flow.{jump_flaw, fall_flaw, call_flaw, or_else, flow_violation, flow_by, flow_at}
use Rattle.verifier.specs.Verdict.{first_flaw, first_violation, or_first}
use Rattle.verifier.specs.Accepted.{IsAccepted}
use Rattle.verifier.specs.Calls.{is_call, is_call_place}
use Rattle.verifier.proofs.Firsts.{all_none}
use Rattle.verifier.proofs.Behind.{KnownWeaker, known_on, known_later, arrives, HasInsn, head_insn, behind, or_none}
use Rattle.verifier.proofs.Behind.{both_none, lands, jump_leads, next_goes_on, falls_within, next_later}

transfer_ok : (r : Result Ways Violation) → violation_of r ≡ None → (w : Ways) × (r ≡ Ok w)
transfer_ok (Ok w) h = (w, refl)
transfer_ok (Err v) h = absurd cc

split_verdict : (a b : Option (ℕ × Violation)) → or_first a b ≡ None → (a ≡ None) × (b ≡ None)
split_verdict None b h = (refl, h)
split_verdict (Some p) b h = absurd cc

-- ---- the entry

length_args : (args : List ℕ) → length (flat_map (to_le_bytes w64) args) ≡ 8 * length args
length_args [] = refl
length_args (a ∷ args) = let e1 = length-append (to_le_bytes w64 a) (flat_map (to_le_bytes w64) args) in let e2 = length_args args in omega (arith, e1, e2)

regions_shaped : (bases : List ℕ) → shapes (buffer_regions bases) ≡ buffer_shapes bases
regions_shaped [] = refl
regions_shaped (b ∷ bases) = ap₂ (λ (n : ℕ) (shs : List Shape). record { base = b; writable = true; size = n } ∷ shs) (length-replicate {A = ℕ} 64 0) (regions_shaped bases)

-- a stack and arguments of these sizes, before the other regions
abbrev laid_out : Bases → ℕ → ℕ → List Shape → List Shape
laid_out b stack arguments others =
    record { base = b.stack; writable = true; size = stack } ∷ record { base = b.arguments; writable = false; size = arguments } ∷ others

entry_shaped : (s : Setting) → shapes (entry s).memory ≡ shapes_of s
entry_shaped s =
    let buffers = take (length s.program.decl.slots) s.bases.buffers in
    ap₂ (λ (stack arguments : ℕ). laid_out s.bases stack arguments (shapes (buffer_regions buffers))) (length-replicate {A = ℕ} 512 0) (length_args s.args)
    ∙ ap (laid_out s.bases 512 (8 * length s.args)) (regions_shaped buffers)

stack_end : (base : ℕ) → base + 512 ≤ 2 ^ 47 → base + 512 ≡ address base (pos 512)
stack_end base reach = omega (arith, reach)

entry_all : (s : Setting) → IsSetting s → AllFit s entry_kinds (entry s).registers
entry_all s is = record { at = at }
  where
    at : (r : ℕ) → Fits s (kind_at entry_kinds r) (slice_index_or (entry s).registers r None)
    at zero = tt
    at (suc zero) = let reach = (laid_of s is).arguments in ap (λ (n : ℕ). Some n) (sym (address_zero s.bases.arguments (omega (arith, reach))))
    at (suc (suc zero)) = tt
    at (suc (suc (suc zero))) = tt
    at (suc (suc (suc (suc zero)))) = tt
    at (suc (suc (suc (suc (suc zero))))) = tt
    at (suc (suc (suc (suc (suc (suc zero)))))) = tt
    at (suc (suc (suc (suc (suc (suc (suc zero))))))) = tt
    at (suc (suc (suc (suc (suc (suc (suc (suc zero)))))))) = tt
    at (suc (suc (suc (suc (suc (suc (suc (suc (suc zero))))))))) = tt
    at (suc (suc (suc (suc (suc (suc (suc (suc (suc (suc zero)))))))))) = ap (λ (n : ℕ). Some n) (stack_end s.bases.stack (laid_of s is).stack)
    at (suc (suc (suc (suc (suc (suc (suc (suc (suc (suc (suc r))))))))))) = tt

-- ---- only a call asks

abbrev AsksOnly : Bool → Step → Type 0
AsksOnly b (Ask k operation c) = b ≡ true
AsksOnly b s = Unit {0}

call_asks : (s : Step) → AsksOnly true s
call_asks (Ask k operation c) = refl
call_asks s = tt

abbrev AsksNothing : Step → Type 0
AsksNothing = AsksOnly false

read_asks : (o : Option ℕ) (go : ℕ → Step) → ((n : ℕ) → AsksNothing (go n)) → AsksNothing (need EmptyRead o go)
read_asks None go h = tt
read_asks (Some n) go h = h n

cond_asks : (b : Bool) (x y : Step) → AsksNothing x → AsksNothing y → AsksNothing (cond b x y)
cond_asks true x y hx hy = hx
cond_asks false x y hx hy = hy

put_asks : (c : Config) (slots r v : ℕ) → AsksNothing (put c slots r v)
put_asks c slots r v = cond_asks (r == 10) _ _ tt tt

goes_asks : (c : Config) (o : Option ℕ) → AsksNothing (goes_to c o)
goes_asks c None = tt
goes_asks c (Some n) = tt

if_taken_asks : (t : Bool) (c : Config) (offset : ℤ) → AsksNothing (if_taken t c offset)
if_taken_asks true c offset = goes_asks c (place_of (pos (c.place + 1) +ℤ offset))
if_taken_asks false c offset = goes_asks c (place_of (pos (c.place + 1) +ℤ pos 0))

loaded_asks : (c : Config) (w : Width) (signed : Bool) (r : ℕ) (o : Option (List ℕ)) → AsksNothing (loaded c w signed r o)
loaded_asks c w signed r None = tt
loaded_asks c w signed r (Some bytes) = put_asks c 1 r _

stored_asks : (c : Config) (o : Option Memory) → AsksNothing (stored c o)
stored_asks c None = tt
stored_asks c (Some m) = tt

fetched_asks : (c : Config) (into : Option ℕ) (old : ℕ) (o : Option Memory) → AsksNothing (fetched c into old o)
fetched_asks c into old None = tt
fetched_asks c None old (Some m) = tt
fetched_asks c (Some r) old (Some m) = put_asks (record c { memory = m }) 1 r old

replaced_asks : (c : Config) (w : Width) (at : ℕ) (into : Option ℕ) (compute : ℕ → ℕ) (o : Option (List ℕ)) → AsksNothing (replaced c w at into compute o)
replaced_asks c w at into compute None = tt
replaced_asks c w at into compute (Some bytes) = fetched_asks c into (from_le_bytes w bytes) (written c.memory at (to_le_bytes w (compute (from_le_bytes w bytes))))

insn_asks : (s : Setting) (c : Config) (i : Insn) → AsksOnly (is_call i) (instruction_step s c i)
insn_asks s c (Alu width operation dst source) = read_asks (value_of c source) _ (λ b. read_asks (left_of c operation dst) _ (λ a. put_asks c 1 (number_of dst) _))
insn_asks s c (Negate width dst) = read_asks (register c (number_of dst)) _ (λ a. put_asks c 1 (number_of dst) _)
insn_asks s c (MoveSigned extension dst src) = read_asks (register c (number_of src)) _ (λ b. put_asks c 1 (number_of dst) _)
insn_asks s c (Order order width dst) = read_asks (register c (number_of dst)) _ (λ a. put_asks c 1 (number_of dst) _)
insn_asks s c (LoadWide dst value) = put_asks c 2 (number_of dst) _
insn_asks s c (Jump offset) = goes_asks c _
insn_asks s c (JumpLong offset) = goes_asks c _
insn_asks s c (JumpIf width condition dst source offset) = read_asks (register c (number_of dst)) _ (λ a. read_asks (value_of c source) _ (λ b. if_taken_asks _ c offset))
insn_asks s c (Load size dst base offset) = read_asks (register c (number_of base)) _ (λ b. loaded_asks c _ false (number_of dst) _)
insn_asks s c (LoadSigned size dst base offset) = read_asks (register c (number_of base)) _ (λ b. loaded_asks c _ true (number_of dst) _)
insn_asks s c (StoreImm size base offset imm) = read_asks (register c (number_of base)) _ (λ b. stored_asks c _)
insn_asks s c (Store size base src offset) = read_asks (register c (number_of base)) _ (λ b. read_asks (register c (number_of src)) _ (λ v. stored_asks c _))
insn_asks s c (Atomic width operation base src offset) =
    let w = width_of (is_64 width) in
    let into = option_map number_of (receiver operation src) in
    read_asks (register c (number_of base)) _ (λ b. read_asks (register c (number_of src)) _ (λ v. read_asks (expected_of c operation) _ (λ expected.
    replaced_asks c w (address b offset) into (λ old. exchanged_by (is_64 width) operation expected old v) (bytes_at c.memory (address b offset) (byte_len w)))))
insn_asks s c (Call helper) = call_asks (instruction_step s c (Call helper))
insn_asks s c Exit = read_asks (register c 0) _ (λ v. tt)

-- ---- how many calls stand in the code from a place on

abbrev one_if : Bool → ℕ → ℕ
one_if b n = cond b (1 + n) n

abbrev calls_of : List Place → ℕ
calls_of [] = 0
calls_of (p ∷ ps) = one_if (is_call_place p) (calls_of ps)

abbrev calls_from : List Place → ℕ → ℕ
calls_from [] at = 0
calls_from (p ∷ ps) zero = calls_of (p ∷ ps)
calls_from (p ∷ ps) (suc at) = calls_from ps at

from_first : (code : List Place) → calls_from code 0 ≡ calls_of code
from_first [] = refl
from_first (p ∷ ps) = refl

from_call : (code : List Place) (at : ℕ) (i : Insn) → slice_get code at ≡ Some (place.Insn i) → is_call i ≡ true
    → calls_from code at ≡ suc (calls_from code (suc at))
from_call [] at i e call = absurd cc
from_call (p ∷ ps) zero i e call =
    let same : p ≡ place.Insn i = cc in
    let one = ap (λ (b : Bool). one_if b (calls_of ps)) (ap is_call_place same ∙ call) in
    let f = from_first ps in
    omega (arith, f, one)
from_call (p ∷ ps) (suc at) i e call = from_call ps at i e call

one_if_more : (b : Bool) (n : ℕ) → n ≤ one_if b n
one_if_more true n = omega arith
one_if_more false n = omega arith

from_one : (code : List Place) (at : ℕ) → calls_from code (suc at) ≤ calls_from code at
from_one [] at = omega arith
from_one (p ∷ ps) zero = (let f = from_first ps in let more = one_if_more (is_call_place p) (calls_of ps) in omega (arith, f, more))
from_one (p ∷ ps) (suc at) = from_one ps at

from_on : (code : List Place) (more at : ℕ) → calls_from code (more + at) ≤ calls_from code at
from_on code zero at = (let e : 0 + at ≡ at = omega arith in subst (λ (k : ℕ). calls_from code k ≤ calls_from code at) (sym e) (omega arith))
from_on code (suc more) at =
    let e : suc more + at ≡ suc (more + at) = omega arith in
    subst (λ (k : ℕ). calls_from code k ≤ calls_from code at) (sym e) (omega (arith, from_on code more at, from_one code (more + at)))

from_later : (code : List Place) (at to : ℕ) → at ≤ to → calls_from code to ≤ calls_from code at
from_later code at to le = let e : to - at + at ≡ to = omega (arith, le) in subst (λ (k : ℕ). calls_from code k ≤ calls_from code at) e (from_on code (to - at) at)

same_place : (s : Setting) (k : ℕ) (c : Config) (a : Said) → (answered s k c a).place ≡ c.place + 1
same_place s k c said.Absent = refl
same_place s k c a = refl

-- ---- a run

-- the configuration stands at an instruction that is reached, and fits its kinds
record FitsAt (s : Setting) (code : List Place) (c : Config) : Type 0 where
  insn : Insn
  stands : slice_get code c.place ≡ Some (place.Insn insn)
  kinds : Kinds
  known : kinds_at s.program.decl code c.place ≡ Some kinds
  all : AllFit s kinds c.registers
  standing : IsStanding s c
  few : c.taken ≤ c.place

module _ (code : List Place) (decl : Declaration) (accepted : IsAccepted decl code) (args : List ℕ) (b : Bases) (layout : IsLayout b) (arguments : AreArguments decl args) where
  abbrev here : Setting
  here = setting code decl args b

  is_setting : IsSetting here
  is_setting = record { layout = layout; count = arguments.count; few_args = accepted.few_args; few_slots = accepted.few_slots }

  nothing_first : (first_flaw code ≡ None) × (first_violation decl code ≡ None)
  nothing_first = split_verdict (first_flaw code) (first_violation decl code) accepted.nothing

  flow_none : (at : ℕ) → at < length code → flow_at code at ≡ None
  flow_none at lt = all_none (flow_at code) 0 (length code) at nothing_first.0 (omega arith) (omega arith)

  kinds_none : (at : ℕ) → at < length code → violation_at decl code at ≡ None
  kinds_none at lt = all_none (violation_at decl code) 0 (length code) at nothing_first.1 (omega arith) (omega arith)

  -- it went on to a later place, where it fits
  abbrev FitsLater : ℕ → Config → Type 0
  FitsLater at c = FitsAt here code c × (at < c.place)

  -- so it is behind each answer that fits the question
  abbrev OnceAnswered : ℕ → Op → Config → (Config → Type 0) → Type 0
  OnceAnswered slot operation c so = (a : Said) → fits operation a ≡ true → is_no_room a ≡ false → so (answered here slot c a)

  abbrev SafeStep : ℕ → Step → Type 0
  SafeStep at (Next c) = FitsLater at c
  SafeStep at (Ask slot operation c) =
      IsBySlot args (slice_get decl.slots slot) operation × (c.place ≡ at) × (c.taken ≤ at + 1) × OnceAnswered slot operation c (FitsLater at)
  SafeStep at (Done v c) = c.taken ≤ at + 1
  SafeStep at (Trap cause) = ⊥

  -- the kinds that a way brings fit where it leads
  fits_there : (c : Config) (ks : Kinds) → KnownWeaker ks (kinds_at decl code c.place) → AllFit here ks c.registers
      → HasInsn code c.place → IsStanding here c → c.taken ≤ c.place → FitsAt here code c
  fits_there c ks known all insn standing few = record { insn = insn.0; stands = insn.1; kinds = known.0; known = known.1; all = known.2.fits here c.registers all; standing = standing; few = few }

  went_on : (c : Config) (w : Ways) (at : FitsAt here code c) → transfer_of decl at.insn at.kinds ≡ Ok w
      → (c' : Config) → WentOn here c.place c.taken at.insn w c' → FitsLater c.place c'
  went_on c w at t c' sound = elim sound.2 [ inl next ↦ by_next next | inr jump ↦ by_jump jump ]
    where
      lt : c.place < length code
      lt = slice_get_within code c.place (place.Insn at.insn) at.stands

      flow : flow_violation code c.place at.insn ≡ None
      flow = ap (flow_by code c.place) (sym at.stands) ∙ flow_none c.place lt

      falls : or_none (jump_flaw code c.place (jump_offset at.insn)) (or_else (fall_flaw code c.place at.insn) (call_flaw at.insn))
      falls = both_none _ _ flow

      sent : (to : ℕ) → arriving decl code (suc c.place) to ≡ along_ways c.place at.insn (Ok w) to (arriving decl code c.place to)
      sent to =
          let before = arriving decl code c.place to in
          ap₂ (λ (p : Option Place) (ks : Option Kinds). along_from decl c.place p ks to before) at.stands at.known
          ∙ ap (λ (r : Result Ways Violation). along_ways c.place at.insn r to before) t

      known_by : (to : ℕ) (ks : Kinds) → suc c.place ≤ to → KnownWeaker ks (along_ways c.place at.insn (Ok w) to (arriving decl code c.place to))
          → KnownWeaker ks (kinds_at decl code to)
      known_by to ks le h = known_later decl code (suc c.place) to ks le (subst (KnownWeaker ks) (sym (sent to)) h)

      by_next : ((ks : Kinds) × (w.next ≡ Some ks) × (c'.place ≡ next_place c.place at.insn) × AllFit here ks c'.registers) → FitsLater c.place c'
      by_next n =
          let to = next_place c.place at.insn in
          let later = next_later c.place at.insn in
          let within = falls_within code c.place at.insn (both_none _ _ falls.1).0 (next_goes_on decl at.insn at.kinds n.0 w t n.1) in
          let stands = behind false code c.place at.insn accepted.whole.whole at.stands within in
          let comes : KnownWeaker n.0 (along (Some to) w.next to (arriving decl code c.place to)) =
          subst (λ (o : Option Kinds). KnownWeaker n.0 (along (Some to) o to (arriving decl code c.place to))) (sym n.1) (arrives to n.0 (arriving decl code c.place to)) in
          let known = known_by to n.0 later (known_on (jump_place c.place at.insn) w.jump to n.0 _ comes) in
          let e = sym n.2 in (
            fits_there c' n.0 (subst (λ (k : ℕ). KnownWeaker n.0 (kinds_at decl code k)) e known) n.3 (subst (HasInsn code) e stands) sound.1 (omega (arith, sound.0, at.few, later, e)),
            omega (arith, later, e),
          )

      by_jump : ((ks : Kinds) × (w.jump ≡ Some ks) × (jump_place c.place at.insn ≡ Some c'.place) × AllFit here ks c'.registers)
          → FitsLater c.place c'
      by_jump j =
          let leads = jump_leads code c.place c'.place (jump_offset at.insn) falls.0 j.2 in
          let before = along (Some (next_place c.place at.insn)) w.next c'.place (arriving decl code c.place c'.place) in
          let comes : KnownWeaker j.0 (along (jump_place c.place at.insn) w.jump c'.place before) =
          subst (λ (o : Option Kinds). KnownWeaker j.0 (along (jump_place c.place at.insn) o c'.place before)) (sym j.1)
          (subst (λ (to : Option ℕ). KnownWeaker j.0 (along to (Some j.0) c'.place before)) (sym j.2) (arrives c'.place j.0 before)) in
          let forward = leads.forward in (
            fits_there c' j.0 (known_by c'.place j.0 (omega arith) comes) j.3 leads.insn sound.1 (omega (arith, sound.0, at.few, forward)),
            forward,
          )

  step_fits : (c : Config) (w : Ways) (at : FitsAt here code c) → transfer_of decl at.insn at.kinds ≡ Ok w
      → (s : Step) → IsSound here c.place c.taken at.insn w s → SafeStep c.place s
  step_fits c w at t (Next c') sound = went_on c w at t c' sound
  step_fits c w at t (Ask slot operation c') sound =
      let taken = sound.1 in
      (sound.2, sound.0, omega (arith, taken, at.few), λ a f room. went_on c w at t (answered here slot c' a) (sound.3 a f room))
  step_fits c w at t (Done v c') sound = omega (arith, sound, at.few)
  step_fits c w at t (Trap cause) sound = sound

  safe_step : (c : Config) → FitsAt here code c → SafeStep c.place (step here c)
  safe_step c at =
      let lt = slice_get_within code c.place (place.Insn at.insn) at.stands in
      let flow : flow_violation code c.place at.insn ≡ None = ap (flow_by code c.place) (sym at.stands) ∙ flow_none c.place lt in
      let quiet : violation_of (transfer_of decl at.insn at.kinds) ≡ None = sym (ap₂ (violation_by decl) at.stands at.known) ∙ kinds_none c.place lt in
      let w = transfer_ok (transfer_of decl at.insn at.kinds) quiet in
      let landing = lands code c.place (jump_offset at.insn) (both_none _ _ flow).0 in
      subst (SafeStep c.place) (sym (step-instruction code decl args b c at.insn accepted.whole.whole at.stands))
      (step_fits c w.0 at w.1 (instruction_step here c at.insn) (step_sound here at.kinds c at.insn w.0 is_setting at.all at.standing landing w.1))

  abbrev SafeStop : Stop → Type 0
  SafeStop (Asked slot operation c) =
      IsBySlot args (slice_get decl.slots slot) operation × (c.place < length code) × (c.taken ≤ length code) × OnceAnswered slot operation c (FitsAt here code)
  SafeStop (Exited v c) = c.taken ≤ length code
  SafeStop (Trapped cause) = ⊥
  SafeStop Unfinished = ⊥

  go_on : (n at : ℕ) (s : Step) → at < length code → length code ≤ suc n + at
      → ((c : Config) → FitsAt here code c → length code ≤ n + c.place → SafeStop (advance here n c)) → SafeStep at s
      → SafeStop (from_step s (advance here n))
  go_on n at (Next c) lt le more safe = more c safe.0 (omega (arith, safe.1))
  go_on n at (Ask slot operation c) lt le more safe =
      let place = safe.1 in
      let taken = safe.2 in
      (safe.0, omega (arith, place, lt), omega (arith, taken, lt), λ a f room. (safe.3 a f room).0)
  go_on n at (Done v c) lt le more safe = omega (arith, safe)
  go_on n at (Trap cause) lt le more safe = absurd safe

  advance_safe : (n : ℕ) (c : Config) → FitsAt here code c → length code ≤ n + c.place → SafeStop (advance here n c)
  advance_safe zero c at le = absurd (let lt = slice_get_within code c.place (place.Insn at.insn) at.stands in omega arith)
  advance_safe (suc n) c at le =
      let lt = slice_get_within code c.place (place.Insn at.insn) at.stands in
      go_on n c.place (step here c) lt le (advance_safe n) (safe_step c at)

  slots_are : length (program_of code decl).code ≡ length code
  slots_are = length-program code decl

  whole_safe : (c : Config) → FitsAt here code c → SafeStop (onwards here c)
  whole_safe c at = subst (λ (n : ℕ). SafeStop (advance here n c)) (sym slots_are) (advance_safe (length code) c at (omega arith))

  stop_fine : (s : Stop) → SafeStop s → IsFineStop here s
  stop_fine (Asked slot operation c) h = (h.0, subst (λ (n : ℕ). c.place < n) (sym slots_are) h.1, subst (λ (n : ℕ). c.taken ≤ n) (sym slots_are) h.2)
  stop_fine (Exited v c) h = subst (λ (n : ℕ). c.taken ≤ n) (sym slots_are) h
  stop_fine (Trapped cause) h = h
  stop_fine Unfinished h = h

  -- the run from a stop on, and that its answers fit
  abbrev run_on : Stop → Said → List Said → Stop
  run_on s a later = on_from here s (λ k c. run here (answered here k c a) later)

  abbrev FitOn : Stop → Said → List Said → Type 0
  FitOn s a later = FitsStop s a (λ k c. AnswersFit here (answered here k c a) later)

  -- so it is of each run on these answers
  abbrev EachRun : List Said → (Config → Stop → Type 0) → Type 0
  EachRun answers so = (c : Config) → FitsAt here code c → AnswersFit here c answers → so c (run here c answers)

  -- an answer that fits leads on to where the run is safe again
  after_stop : (s : Stop) (a : Said) (later : List Said) → SafeStop s → FitOn s a later
      → EachRun later (λ c. IsFineStop here) → IsFineStop here (run_on s a later)
  after_stop (Asked slot operation c) a later h f more = more (answered here slot c a) (h.3 a f.0 f.1) f.2
  after_stop (Exited v c) a later h f more = stop_fine (Exited v c) h
  after_stop (Trapped cause) a later h f more = h
  after_stop Unfinished a later h f more = h

  run_safe : (answers : List Said) → EachRun answers (λ c. IsFineStop here)
  run_safe [] c at f = stop_fine (onwards here c) (whole_safe c at)
  run_safe (a ∷ later) c at f = after_stop (onwards here c) a later (whole_safe c at) f (run_safe later)

  entry_fits : FitsAt here code (entry here)
  entry_fits =
      let first = head_insn code accepted.whole.whole accepted.whole.some in
      record {
        insn = first.0;
        stands = first.1;
        kinds = entry_kinds;
        known = refl;
        all = entry_all here is_setting;
        standing = record { eleven = refl; memory = entry_shaped here };
        few = omega arith;
      }

  -- ---- each question is of a later call slot than the one before

  -- a call stands at the place
  abbrev IsCallAt : ℕ → Type 0
  IsCallAt at = (i : Insn) × (slice_get code at ≡ Some (place.Insn i)) × (is_call i ≡ true)

  abbrev CountedStep : ℕ → Step → Type 0
  CountedStep at (Ask slot operation c) = IsCallAt at
  CountedStep at s = Unit {0}

  insn_counted : (at : ℕ) (i : Insn) → slice_get code at ≡ Some (place.Insn i) → (s : Step) → AsksOnly (is_call i) s → CountedStep at s
  insn_counted at i stands (Ask slot operation c) h = (i, stands, h)
  insn_counted at i stands s h = tt

  counted_step : (c : Config) → FitsAt here code c → CountedStep c.place (step here c)
  counted_step c at =
      subst (CountedStep c.place) (sym (step-instruction code decl args b c at.insn accepted.whole.whole at.stands))
      (insn_counted c.place at.insn at.stands (instruction_step here c at.insn) (insn_asks here c at.insn))

  abbrev CountedStop : ℕ → Stop → Type 0
  CountedStop from (Asked slot operation c) = (from ≤ c.place) × IsCallAt c.place
  CountedStop from s = Unit {0}

  lower_stop : (at to : ℕ) → at ≤ to → (s : Stop) → CountedStop to s → CountedStop at s
  lower_stop at to le (Asked slot operation c) h = (let p = h.0 in (omega (arith, le, p), h.1))
  lower_stop at to le s h = tt

  go_counted : (n at : ℕ) (s : Step) → SafeStep at s → CountedStep at s
      → ((c : Config) → FitsAt here code c → CountedStop c.place (advance here n c))
      → CountedStop at (from_step s (advance here n))
  go_counted n at (Next c) safe h more = let later = safe.1 in lower_stop at c.place (omega (arith, later)) (advance here n c) (more c safe.0)
  go_counted n at (Ask slot operation c) safe h more = let same : c.place ≡ at = safe.1 in (omega (arith, same), subst IsCallAt (sym same) h)
  go_counted n at s safe h more = tt

  advance_counted : (n : ℕ) (c : Config) → FitsAt here code c → CountedStop c.place (advance here n c)
  advance_counted zero c at = tt
  advance_counted (suc n) c at = go_counted n c.place (step here c) (safe_step c at) (counted_step c at) (advance_counted n)

  whole_counted : (c : Config) → FitsAt here code c → CountedStop c.place (onwards here c)
  whole_counted c at = subst (λ (n : ℕ). CountedStop c.place (advance here n c)) (sym slots_are) (advance_counted (length code) c at)

  -- so many answers, and then a question: as many calls stand from here on, and one more
  abbrev FewAnswers : ℕ → ℕ → Stop → Type 0
  FewAnswers n from (Asked slot operation c) = n < calls_from code from
  FewAnswers n from s = Unit {0}

  no_answers : (from : ℕ) (s : Stop) → CountedStop from s → FewAnswers 0 from s
  no_answers from (Asked slot operation c) h =
      let one = from_call code c.place h.1.0 h.1.1 h.1.2 in
      let later = from_later code from c.place h.0 in
      omega (arith, one, later)
  no_answers from s h = tt

  one_more_answer : (n from at : ℕ) (s : Stop) → suc (calls_from code (suc at)) ≤ calls_from code from
      → FewAnswers n (suc at) s → FewAnswers (suc n) from s
  one_more_answer n from at (Asked slot operation c) le h = omega (arith, le, h)
  one_more_answer n from at s le h = tt

  after_counted : (from : ℕ) (s : Stop) (a : Said) (later : List Said) → SafeStop s → CountedStop from s → FitOn s a later
      → EachRun later (λ c. FewAnswers (length later) c.place) → FewAnswers (suc (length later)) from (run_on s a later)
  after_counted from (Asked slot operation c) a later safe h f more =
      let one = from_call code c.place h.1.0 h.1.1 h.1.2 in
      let below = from_later code from c.place h.0 in
      let next : (answered here slot c a).place ≡ suc c.place = (let p = same_place here slot c a in omega (arith, p)) in
      let rest = run here (answered here slot c a) later in
      one_more_answer (length later) from c.place rest (omega (arith, one, below))
      (subst (λ (k : ℕ). FewAnswers (length later) k rest) next (more (answered here slot c a) (safe.3 a f.0 f.1) f.2))
  after_counted from s a later safe h f more = tt

  run_counted : (answers : List Said) → EachRun answers (λ c. FewAnswers (length answers) c.place)
  run_counted [] c at f = no_answers c.place (onwards here c) (whole_counted c at)
  run_counted (a ∷ later) c at f = after_counted c.place (onwards here c) a later (whole_safe c at) (whole_counted c at) f (run_counted later)

  -- ---- each question stands at a call, further on than the questions before it

  later_on : (from : ℕ) (s : Stop) (a : Said) (later : List Said) → SafeStop s → CountedStop from s → FitOn s a later
      → EachRun later (λ c. CountedStop c.place) → CountedStop from (run_on s a later)
  later_on from (Asked slot operation c) a later safe h f more =
      let on = h.0 in
      let next = same_place here slot c a in
      lower_stop from (answered here slot c a).place (omega (arith, on, next)) (run here (answered here slot c a) later) (more (answered here slot c a) (safe.3 a f.0 f.1) f.2)
  later_on from s a later safe h f more = tt

  run_later : (answers : List Said) → EachRun answers (λ c. CountedStop c.place)
  run_later [] c at f = whole_counted c at
  run_later (a ∷ later) c at f = later_on c.place (onwards here c) a later (whole_safe c at) (whole_counted c at) f (run_later later)

  module _ (slot slot' : ℕ) (operation operation' : Op) (there there' : Config) where
    -- where the one stop is the first question and the other the second, the second stands further on
    abbrev Further : Stop → Stop → Type 0
    Further s s' = s ≡ Asked slot operation there → s' ≡ Asked slot' operation' there' → there.place < there'.place

    next_further : (s : Stop) (a : Said) (later : List Said) → SafeStop s → FitOn s a later → Further s (run_on s a later)
    next_further (Asked k o c) a later safe f e e' =
        let counted = subst (CountedStop (answered here k c a).place) e' (run_later later (answered here k c a) (safe.3 a f.0 f.1) f.2) in
        let on = counted.0 in
        let next = same_place here k c a in
        let same : c ≡ there = cc in
        let place = ap (λ (x : Config). x.place) same in
        omega (arith, on, next, place)
    next_further s a later safe f e e' = absurd cc

    on_further : (s : Stop) (x : Said) (earlier answers : List Said) → SafeStop s → FitOn s x answers
        → EachRun answers (λ c. Further (run here c earlier)) → Further (run_on s x earlier) (run_on s x answers)
    on_further (Asked k o c) x earlier answers safe f more e e' = more (answered here k c x) (safe.3 x f.0 f.1) f.2 e e'
    on_further (Exited v c) x earlier answers safe f more e e' = absurd cc
    on_further (Trapped cause) x earlier answers safe f more e e' = absurd safe
    on_further Unfinished x earlier answers safe f more e e' = absurd safe

    further : (earlier : List Said) (a : Said) (later : List Said) → EachRun (earlier ++ a ∷ later) (λ c. Further (run here c earlier))
    further [] a later c at f e e' = next_further (onwards here c) a later (whole_safe c at) f e e'
    further (x ∷ earlier) a later c at f e e' = on_further (onwards here c) x earlier (earlier ++ a ∷ later) (whole_safe c at) f (further earlier a later) e e'

call_opcode : (i : Insn) → is_call i ≡ true → calls_helper (Some (fields_of i)) ≡ true
call_opcode (Call helper) e = refl
call_opcode i e = absurd cc

-- each question of a run is of another call, further on
pub accepted_asks_once : (code : List Place) (decl : Declaration) → IsAccepted decl code → AsksOnceByEach (program_of code decl)
accepted_asks_once code decl accepted = record {
  by_call = λ args b answers slot operation c layout arguments fit asked.
      let s = setting code decl args b in
      let counted = run_later code decl accepted args b layout arguments answers (entry s) (entry_fits code decl accepted args b layout arguments) fit in
      let here = subst (CountedStop code decl accepted args b layout arguments 0) asked counted in
      ap calls_helper (slot_at 0 code c.place here.1.0 here.1.1) ∙ call_opcode here.1.0 here.1.2;
  further_on = λ args b earlier a later slot slot' operation operation' c c' layout arguments.
      let s = setting code decl args b in
      further code decl accepted args b layout arguments slot slot' operation operation' c c' earlier a later (entry s) (entry_fits code decl accepted args b layout arguments);
}

-- each question of a run is of another call slot, so there are more of these than answers before it
pub accepted_asks_few : (code : List Place) (decl : Declaration) → IsAccepted decl code
    → AsksAtMost (program_of code decl) (count_by is_call_place code)
accepted_asks_few code decl accepted = record {
  few = λ args b answers slot operation c layout arguments fit asked.
      let s = setting code decl args b in
      let counted = run_counted code decl accepted args b layout arguments answers (entry s) (entry_fits code decl accepted args b layout arguments) fit in
      let here : length answers < calls_from code 0 = subst (FewAnswers code decl accepted args b layout arguments (length answers) 0) asked counted in
      let all = from_first code ∙ is_count_by calls_of is_call_place refl (λ p ps. refl) code in
      omega (arith, here, all);
}

pub accepted_is_safe : (code : List Place) (decl : Declaration) → IsAccepted decl code → IsSafe (program_of code decl)
accepted_is_safe code decl accepted = record {
  always = λ args b answers layout arguments.
      let s = setting code decl args b in
      run_safe code decl accepted args b layout arguments answers (entry s) (entry_fits code decl accepted args b layout arguments);
}
