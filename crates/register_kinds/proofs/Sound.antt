-- A step from a configuration that fits the kinds is no trap, and fits the kinds behind it.
use Rattle.std.proofs.Common.{◌≡◌, ℕ, ◌+◌, ◌<◌, Bool, true, false, Option, Some, None, Ok, List, length, eqb, cond}
use Rattle.std.proofs.Common.{refl, subst, sym, ap, ◌∙◌, inl, inr, arith, Result, Err}
use Rattle.std.specs.Prelude.{ℤ, pos, slice_set, IfOk}
use Rattle.std.specs.Int.{Width, byte_len, from_le_bytes, to_le_bytes}
use Rattle.std.specs.Option.{option_map}
use Rattle.std.proofs.lemmas.List.{length-set}
use Rattle.access_slots.specs.Declaration.{Declaration}
use Rattle.bpf_encoding.specs.Spelling.{number_of}
use Rattle.bpf_encoding.specs.Reading.{is_64}
use Rattle.bpf_encoding.specs.declared.insn.AtomicOperation.{AtomicOperation}
use Rattle.bpf_encoding.specs.declared.insn.AtomicOperation.TheVariants as atomic
use Rattle.bpf_encoding.specs.declared.insn.Register.{Register}
use Rattle.bpf_encoding.specs.declared.insn.Size.{Size}
use Rattle.bpf_encoding.specs.declared.insn.Size.TheVariants.{Word}
use Rattle.bpf_encoding.specs.declared.insn.Insn.{Insn}
use Rattle.bpf_encoding.specs.declared.insn.Insn.TheVariants.{Alu, Negate, MoveSigned, Order, LoadWide, Jump}
use Rattle.bpf_encoding.specs.declared.insn.Insn.TheVariants.{JumpLong, JumpIf, Load, LoadSigned, StoreImm, Store}
use Rattle.bpf_encoding.specs.declared.insn.Insn.TheVariants.{Atomic, Call, Exit}
use Rattle.semantics.specs.Arithmetic.{extended, negation, low, width_of}
use Rattle.semantics.specs.Memory.{Memory, written}
use Rattle.semantics.specs.Step.{Config, Step, Next, Trap, EmptyRead, WroteR10, Setting, register, need, put}
use Rattle.semantics.specs.Step.{goes_to, jump, if_taken, address, loaded, loaded_number, stored, store, fetched}
use Rattle.semantics.specs.Step.{replaced, replace}
use Rattle.semantics.specs.Instruction.{value_of, result_of, extension_of, order_of, is_taken, size_width}
use Rattle.semantics.specs.Instruction.{signed_size_width, load_step, receiver, expected_of, exchanged_by}
use Rattle.semantics.specs.Instruction.{instruction_step}
use Rattle.register_kinds.specs.declared.kind.Kind.{Kind}
use Rattle.register_kinds.specs.declared.kind.Kind.TheVariants.{Number, Const}
use Rattle.register_kinds.specs.declared.kind.Violation.{Violation}
use Rattle.register_kinds.specs.declared.kind.Violation.TheVariants.{WritesR10}
use Rattle.register_kinds.specs.declared.kinds.Kinds.{Kinds}
use Rattle.register_kinds.specs.declared.kinds.Ways.{Ways}
use Rattle.register_kinds.specs.Kinds.{kind_at, with_kind, is_present, check, refuse}
use Rattle.register_kinds.specs.Computed.{source_kind, alu_kind}
use Rattle.register_kinds.specs.Access.{access}
use Rattle.register_kinds.specs.Transfer.{falls, written_kinds, converted_ways}
use Rattle.register_kinds.specs.Transfer.{filled_kinds, loaded_kinds, null_test, branch_ways}
use Rattle.register_kinds.specs.Transfer.{is_expected_present, received_ways, transfer_of}
use Rattle.register_kinds.specs.Arriving.{next_place, jump_offset, target_by}
use Rattle.register_kinds.specs.Fitting.{Fits, AllFit, IsSetting, IsStanding, IsSound, KeepsKinds, Lands}
use Rattle.register_kinds.proofs.Memory.{IsWritten}
use Rattle.register_kinds.proofs.Values.{alu_fits}
use Rattle.register_kinds.proofs.Accesses.{loadable, storable, load_allowed}
use Rattle.register_kinds.proofs.Undoing.{ok, check_ok, refuse_ok, ok_is, not_true}
use Rattle.register_kinds.proofs.Registers.{HasNumber, has_register, has_source, has_left, source_fits, below, put_fits}
use Rattle.register_kinds.proofs.Called.{call_sound}
use Rattle.register_kinds.proofs.Branches.{FitsWay, branch_fits}

some_bytes : (size : Size) (v : ℕ) → (length (to_le_bytes (size_width size) v) ≡ byte_len (size_width size)) × (0 < byte_len (size_width size))
some_bytes Word v = (refl, omega arith)
some_bytes size v = (refl, omega arith)

exchange_bytes : (is64 : Bool) (v : ℕ) → (length (to_le_bytes (width_of is64) v) ≡ byte_len (width_of is64)) × (0 < byte_len (width_of is64))
exchange_bytes true v = (refl, omega arith)
exchange_bytes false v = (refl, omega arith)

module _ (s : Setting) (is : IsSetting s) (ks : Kinds) (c : Config) (all : AllFit s ks c.registers) (stands : IsStanding s c) where
  module _ (i : Insn) (ways : Ways) where
    abbrev Sound : Step → Type 0
    Sound st = IsSound s c.place c.taken i ways st

    read_sound : (v : Option ℕ) (go : ℕ → Step) → HasNumber v → ((n : ℕ) → v ≡ Some n → Sound (go n)) → Sound (need EmptyRead v go)
    read_sound v go h so = subst (λ (o : Option ℕ). Sound (need EmptyRead o go)) (sym h.1) (so h.0 h.1)

    register_sound : (r : ℕ) (go : ℕ → Step) → is_present (kind_at ks r) ≡ true → ((n : ℕ) → register c r ≡ Some n → Sound (go n))
        → Sound (need EmptyRead (register c r) go)
    register_sound r go present so = read_sound (register c r) go (has_register s ks c all r present) so

    -- a value is written, and the run goes on behind the instruction
    put_sound : (slots : ℕ) (dst : Register) (k : Kind) (v : ℕ) → c.place + slots ≡ next_place c.place i
        → written_kinds ks dst k ≡ ok ways → Fits s k (Some v) → Sound (put c slots (number_of dst) v)
    put_sound slots dst k v place e f =
        let after : Config = record { place = c.place + slots; registers = slice_set c.registers (number_of dst) (Some v); memory = c.memory; taken = c.taken + 1 } in
        let eleven = stands.eleven in
        let lt : number_of dst < length c.registers = (let b = below dst in omega (arith, eleven, b)) in
        let p = check_ok _ _ _ ways e in
        let next : Sound (Next after) = (
          refl,
          record { eleven = length-set c.registers (number_of dst) (Some v) ∙ eleven; memory = stands.memory },
          inl (with_kind ks (number_of dst) k, ap (λ (w : Ways). w.next) (sym (ok_is _ ways p.1)), place, put_fits s ks c.registers (number_of dst) k (Some v) lt all f),
        ) in
        subst (λ (b : Bool). Sound (cond b (Trap WroteR10) (Next after))) (sym (not_true (eqb (number_of dst) 10) p.0)) next

    -- a number is computed from a register
    converted_sound : (src dst : Register) (compute : ℕ → ℕ) → c.place + 1 ≡ next_place c.place i
        → converted_ways ks src dst ≡ ok ways
        → Sound (need EmptyRead (register c (number_of src)) (λ a. put c 1 (number_of dst) (compute a)))
    converted_sound src dst compute place e =
        let p = check_ok _ _ _ ways e in
        register_sound (number_of src) _ p.0 (λ a h. put_sound 1 dst Number (compute a) place p.1 refl)

    -- a jump that is taken
    jump_sound : (offset : ℤ) (ls : Kinds) → jump_offset i ≡ Some offset → ways.jump ≡ Some ls → AllFit s ls c.registers
        → Lands c.place (Some offset) → Sound (jump c offset)
    jump_sound offset ls is_jump way fit lands =
        let leads = ap (target_by c.place) is_jump ∙ lands.1 in
        subst (λ (o : Option ℕ). Sound (goes_to c o)) (sym lands.1) (refl, record { eleven = stands.eleven; memory = stands.memory }, inr (ls, way, leads, fit))

    -- one that isn't
    falls_sound : (ls : Kinds) → ways.next ≡ Some ls → AllFit s ls c.registers → c.place + 1 ≡ next_place c.place i → Sound (jump c (pos 0))
    falls_sound ls way fit place = (refl, record { eleven = stands.eleven; memory = stands.memory }, inl (ls, way, omega arith ∙ place, fit))

    branch_sound : (t : Bool) (offset : ℤ) → jump_offset i ≡ Some offset → FitsWay s ways t c
        → c.place + 1 ≡ next_place c.place i → Lands c.place (Some offset) → Sound (if_taken t c offset)
    branch_sound true offset is_jump w place lands = jump_sound offset w.0 is_jump w.1 w.2 lands
    branch_sound false offset is_jump w place lands = falls_sound w.0 w.1 w.2 place

    -- ---- loads and stores

    -- nothing was wrong with the access, and a number may be written into the register
    filled_ok : (r : Register) (violation : Option Violation) → filled_kinds ks r violation ≡ ok ways
        → (violation ≡ None) × (written_kinds ks r Number ≡ ok ways)
    filled_ok r violation e =
        let q = check_ok _ _ _ ways e in
        let p = refuse_ok violation _ ways q.1 in
        (p.0, ap (λ (b : Bool). check b WritesR10 (falls (with_kind ks (number_of r) Number))) q.0 ∙ p.1)

    load_sound : (w : Width) (signed : Bool) (dst base : Register) (offset : ℤ) → c.place + 1 ≡ next_place c.place i
        → loaded_kinds s.program.decl ks dst base offset (byte_len w) ≡ ok ways
        → Sound (load_step c w signed dst base offset)
    load_sound w signed dst base offset place e =
        let kind = kind_at ks (number_of base) in
        let p = check_ok _ _ _ ways e in
        let q = filled_ok dst _ p.1 in
        register_sound (number_of base) _ p.0 (λ b h.
        let bytes = loadable s is c.memory stands.memory kind offset (byte_len w) b (subst (Fits s kind) h (all.at (number_of base))) q.0 in
        subst (λ (o : Option (List ℕ)). Sound (loaded c w signed (number_of dst) o)) (sym bytes.1) (put_sound 1 dst Number (loaded_number w signed bytes.0) place q.1 refl))

    stored_sound : (o : Option Memory) → c.place + 1 ≡ next_place c.place i → falls ks ≡ ok ways → IsWritten c.memory o → Sound (stored c o)
    stored_sound o place e w =
        let after : Config = record { place = c.place + 1; registers = c.registers; memory = w.0; taken = c.taken + 1 } in
        let next : Sound (Next after) = (refl, record { eleven = stands.eleven; memory = w.2 ∙ stands.memory }, inl (ks, ap (λ (x : Ways). x.next) (sym (ok_is _ ways e)), place, all)) in
        subst (λ (x : Option Memory). Sound (stored c x)) (sym w.1) next

    store_sound : (size : Size) (base : Register) (offset : ℤ) (v b : ℕ) → c.place + 1 ≡ next_place c.place i
        → register c (number_of base) ≡ Some b
        → refuse (access s.program.decl true (kind_at ks (number_of base)) offset (byte_len (size_width size))) (falls ks) ≡ ok ways
        → Sound (store c (size_width size) b offset v)
    store_sound size base offset v b place h e =
        let kind = kind_at ks (number_of base) in
        let bytes = to_le_bytes (size_width size) v in
        let r = refuse_ok _ _ ways e in
        let n = some_bytes size v in
        let allowed = ap (access s.program.decl true kind offset) n.0 ∙ r.0 in
        let some : 0 < length bytes = subst (λ (k : ℕ). 0 < k) (sym n.0) n.1 in
        stored_sound (written c.memory (address b offset) bytes) place r.1
        (storable s is c.memory stands.memory kind offset bytes b some (subst (Fits s kind) h (all.at (number_of base))) allowed)

    -- ---- atomic operations

    -- memory is written, and then the register, if there is one
    fetched_sound : (into : Option Register) (violation : Option Violation) (old : ℕ) (o : Option Memory) → c.place + 1 ≡ next_place c.place i
        → received_ways ks into violation ≡ ok ways → IsWritten c.memory o → Sound (fetched c (option_map number_of into) old o)
    fetched_sound None violation old o place e w =
        let sound = stored_sound o place (refuse_ok violation _ ways e).1 w in
        subst (λ (x : Option Memory). Sound (fetched c None old x)) (sym w.1) (subst (λ (x : Option Memory). Sound (stored c x)) w.1 sound)
    fetched_sound (Some r) violation old o place e w =
        let after : Config = record c { memory = w.0 } in
        let later : IsStanding s after = record { eleven = stands.eleven; memory = w.2 ∙ stands.memory } in
        subst (λ (x : Option Memory). Sound (fetched c (Some (number_of r)) old x)) (sym w.1)
        (Rattle.register_kinds.proofs.Sound.put_sound s is ks after all later i ways 1 r Number old place (filled_ok r violation e).1 refl)

    received_allowed : (into : Option Register) (violation : Option Violation) → received_ways ks into violation ≡ ok ways → violation ≡ None
    received_allowed None violation e = (refuse_ok violation (falls ks) ways e).0
    received_allowed (Some r) violation e = (filled_ok r violation e).0

    replace_sound : (is64 : Bool) (into : Option Register) (base : Register) (offset : ℤ) (b : ℕ) (compute : ℕ → ℕ)
        → c.place + 1 ≡ next_place c.place i → register c (number_of base) ≡ Some b
        → received_ways ks into (access s.program.decl true (kind_at ks (number_of base)) offset (byte_len (width_of is64))) ≡ ok ways
        → Sound (replace c (width_of is64) b offset (option_map number_of into) compute)
    replace_sound is64 into base offset b compute place h e =
        let kind = kind_at ks (number_of base) in
        let w = width_of is64 in
        let violation = access s.program.decl true kind offset (byte_len w) in
        let allowed = received_allowed into violation e in
        let fit : Fits s kind (Some b) = subst (Fits s kind) h (all.at (number_of base)) in
        let bytes = loadable s is c.memory stands.memory kind offset (byte_len w) b fit (load_allowed s.program.decl kind offset (byte_len w) allowed) in
        let old = from_le_bytes w bytes.0 in
        let new = to_le_bytes w (compute old) in
        let n = exchange_bytes is64 (compute old) in
        let allowed_new = ap (access s.program.decl true kind offset) n.0 ∙ allowed in
        let some : 0 < length new = subst (λ (k : ℕ). 0 < k) (sym n.0) n.1 in
        let is_written = storable s is c.memory stands.memory kind offset new b some fit allowed_new in
        subst (λ (o : Option (List ℕ)). Sound (replaced c w (address b offset) (option_map number_of into) compute o)) (sym bytes.1)
        (fetched_sound into violation old (written c.memory (address b offset) new) place e is_written)

  -- what is compared with is there
  has_expected : (operation : AtomicOperation) → is_expected_present ks operation ≡ true → HasNumber (expected_of c operation)
  has_expected atomic.Add e = (0, refl)
  has_expected atomic.CompareExchange e = has_register s ks c all 0 e
  has_expected operation e = (0, refl)

  insn_sound : (i : Insn) (ways : Ways) → Lands c.place (jump_offset i) → transfer_of s.program.decl i ks ≡ Ok ways
      → Sound i ways (instruction_step s c i)
  insn_sound (Alu width operation dst source) ways lands e =
      let i : Insn = Alu width operation dst source in
      let k = alu_kind width operation (kind_at ks (number_of dst)) (source_kind ks source) in
      let p = check_ok _ _ _ ways e in
      let q = check_ok _ _ _ ways p.1 in
      let l = has_left s ks c all operation dst p.0 in
      read_sound i ways (value_of c source) _ (has_source s ks c all source q.0) (λ b h.
      subst (λ (o : Option ℕ). Sound i ways (need EmptyRead o (λ a. put c 1 (number_of dst) (result_of (is_64 width) operation a b)))) (sym l.1)
      (put_sound i ways 1 dst k (result_of (is_64 width) operation l.0 b) refl q.1
      (alu_fits s width operation (kind_at ks (number_of dst)) (source_kind ks source) l.0 b l.2 (subst (Fits s (source_kind ks source)) h (source_fits s ks c all source)))))
  insn_sound (Negate width dst) ways lands e = converted_sound (Negate width dst) ways dst dst (λ a. negation (width_of (is_64 width)) (low (is_64 width) a)) refl e
  insn_sound (MoveSigned extension dst src) ways lands e = converted_sound (MoveSigned extension dst src) ways src dst (extension_of extension) refl e
  insn_sound (Order order width dst) ways lands e = converted_sound (Order order width dst) ways dst dst (order_of order width) refl e
  insn_sound (LoadWide dst value) ways lands e = put_sound (LoadWide dst value) ways 2 dst (Const _) _ refl e (refl, omega arith)
  insn_sound (Jump offset) ways lands e = jump_sound (Jump offset) ways offset ks refl (ap (λ (x : Ways). x.jump) (sym (ok_is _ ways e))) all lands
  insn_sound (JumpLong offset) ways lands e = jump_sound (JumpLong offset) ways offset ks refl (ap (λ (x : Ways). x.jump) (sym (ok_is _ ways e))) all lands
  insn_sound (JumpIf width condition dst source offset) ways lands e =
      let i : Insn = JumpIf width condition dst source offset in
      let w = branch_ways (null_test width condition source) (kind_at ks (number_of dst)) (number_of dst) ks in
      let p = check_ok _ _ _ ways e in
      let q = check_ok _ _ (ok w) ways p.1 in
      register_sound i ways (number_of dst) _ p.0 (λ a ha.
      read_sound i ways (value_of c source) _ (has_source s ks c all source q.0) (λ b hb.
      branch_sound i ways (is_taken (is_64 width) condition a b) offset refl
      (subst (λ (x : Ways). FitsWay s x (is_taken (is_64 width) condition a b) c) (ok_is w ways q.1) (branch_fits s is ks c all (number_of dst) a ha width condition source b hb)) refl lands))
  insn_sound (Load size dst base offset) ways lands e = load_sound (Load size dst base offset) ways (size_width size) false dst base offset refl e
  insn_sound (LoadSigned size dst base offset) ways lands e = load_sound (LoadSigned size dst base offset) ways (signed_size_width size) true dst base offset refl e
  insn_sound (StoreImm size base offset imm) ways lands e =
      let i : Insn = StoreImm size base offset imm in
      let p = check_ok _ _ _ ways e in
      register_sound i ways (number_of base) _ p.0 (λ b h. store_sound i ways size base offset (extended imm) b refl h p.1)
  insn_sound (Store size base src offset) ways lands e =
      let i : Insn = Store size base src offset in
      let p = check_ok _ _ _ ways e in
      let q = check_ok _ _ _ ways p.1 in
      register_sound i ways (number_of base) _ q.0 (λ b h. register_sound i ways (number_of src) _ p.0 (λ v hv.
      store_sound i ways size base offset v b refl h q.1))
  insn_sound (Atomic width operation base src offset) ways lands e =
      let i : Insn = Atomic width operation base src offset in
      let p = check_ok _ _ _ ways e in
      let q = check_ok _ _ _ ways p.1 in
      let r = check_ok _ _ _ ways q.1 in
      register_sound i ways (number_of base) _ r.0 (λ b h. register_sound i ways (number_of src) _ p.0 (λ v hv.
      read_sound i ways (expected_of c operation) _ (has_expected operation q.0) (λ expected he.
      replace_sound i ways (is_64 width) (receiver operation src) base offset b (λ old. exchanged_by (is_64 width) operation expected old v) refl h r.1)))
  insn_sound (Call helper) ways lands e = call_sound s is ks c all stands ways helper e
  insn_sound Exit ways lands e = register_sound Exit ways 0 _ (check_ok _ _ _ ways e).0 (λ v h. refl)

pub step_sound : (s : Setting) (ks : Kinds) (c : Config) (i : Insn) (ways : Ways) → IsSetting s
    → AllFit s ks c.registers → IsStanding s c → Lands c.place (jump_offset i)
    → transfer_of s.program.decl i ks ≡ Ok ways → IsSound s c.place c.taken i ways (instruction_step s c i)
step_sound s ks c i ways is all stands lands e = insn_sound s is ks c all stands i ways lands e

-- the same of an answer that is the table's
pub keeps_kinds : (decl : Declaration) (i : Insn) (ks : Kinds) (r : Result Ways Violation) → r ≡ transfer_of decl i ks → IfOk r (KeepsKinds decl i ks)
keeps_kinds decl i ks (Ok ways) e = λ s c same is all stands lands. step_sound s ks c i ways is all stands lands (ap (λ (d : Declaration). transfer_of d i ks) same ∙ sym e)
keeps_kinds decl i ks (Err v) e = tt
