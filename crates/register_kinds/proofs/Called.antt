-- A call of a helper at a declared slot whose mode suffices.
use Rattle.std.proofs.Common.{◌≡◌, ℕ, zero, suc, ◌+◌, ◌<◌, ◌≤◌, Bool, true, false, ◌||◌, Option, Some, None, List}
use Rattle.std.proofs.Common.{length, cond, leb, refl, subst, sym, ap, ◌∙◌, inl, inr, arith}
use Rattle.std.specs.Prelude.{ℤ, pos, negsuc, slice_get, slice_set, ◌++◌}
use Rattle.std.proofs.lemmas.Bool.Decides.{nat_tests}
use Rattle.std.proofs.lemmas.Option.{slice_get_within}
use Rattle.std.proofs.lemmas.List.{length-set, length-take-le, length-append, length-replicate}
use Rattle.access_slots.specs.Access.{fits, record_of, writes}
use Rattle.access_slots.specs.declared.slot.Slot.{Slot}
use Rattle.access_slots.specs.declared.op.Op.{Op}
use Rattle.access_slots.specs.declared.op.Op.TheVariants as op
use Rattle.access_slots.specs.declared.op.Said.{Said}
use Rattle.access_slots.specs.declared.op.Said.TheVariants as said
use Rattle.bpf_encoding.specs.declared.insn.Insn.TheVariants.{Call}
use Rattle.semantics.specs.Memory.{Region, Memory}
use Rattle.semantics.specs.Step.{Config, Ask, Trap, ReadOnlySlot, EmptyRead, Setting, register, need}
use Rattle.semantics.specs.Step.{after_call as emptied, counted, on_slot, call, buffer_of, buffer_base}
use Rattle.semantics.specs.Reach.{IsBySlot, answered, with_region, buffer_bytes, zeros}
use Rattle.semantics.proofs.Extended.{address_zero}
use Rattle.register_kinds.specs.declared.kind.Kind.{Kind}
use Rattle.register_kinds.specs.declared.kind.Kind.TheVariants.{Empty, Number, Const, MaybeBuffer}
use Rattle.register_kinds.specs.declared.kind.Violation.TheVariants.{EmptyRegister, UnknownHelper, SlotUnknown, ModeTooWeak}
use Rattle.register_kinds.specs.declared.kinds.Kinds.{Kinds}
use Rattle.register_kinds.specs.declared.kinds.Ways.{Ways}
use Rattle.register_kinds.specs.Kinds.{kind_at, with_kind, after_call, is_present, check}
use Rattle.register_kinds.specs.Calls.{is_helper, suffices, answer_kind, called_at, called_slot, called_by}
use Rattle.register_kinds.specs.Transfer.{called_ways}
use Rattle.register_kinds.specs.Fitting.{Fits, AllFit, IsSetting, IsStanding, IsSound, WentOn, Shape, shape, shapes, shapes_of}
use Rattle.register_kinds.proofs.Memory.{both, region_of, shapes-set, laid_of, buffer_at}
use Rattle.register_kinds.proofs.Undoing.{ok, check_ok, refused, ok_is}
use Rattle.register_kinds.proofs.Registers.{put_fits}

-- ---- registers behind a call

abbrev Standing : Setting → Kinds → List (Option ℕ) → Type 0
Standing s ks registers = AllFit s ks registers × (length registers ≡ 11)

put_standing : (s : Setting) (ks : Kinds) (registers : List (Option ℕ)) (r : ℕ) (k : Kind) (v : Option ℕ) → r < 11
    → Standing s ks registers → Fits s k v → Standing s (with_kind ks r k) (slice_set registers r v)
put_standing s ks registers r k v lt st f = (put_fits s ks registers r k v (let e = st.1 in omega (arith, lt, e)) st.0 f, length-set registers r v ∙ st.1)

emptied_fits : (s : Setting) (ks : Kinds) (registers : List (Option ℕ)) (k : Kind) (v : ℕ) → Standing s ks registers
    → Fits s k (Some v) → Standing s (after_call ks k) (emptied registers v)
emptied_fits s ks registers k v st f =
    put_standing s _ _ 5 Empty None (omega arith)
    (put_standing s _ _ 4 Empty None (omega arith)
    (put_standing s _ _ 3 Empty None (omega arith)
    (put_standing s _ _ 2 Empty None (omega arith)
    (put_standing s _ _ 1 Empty None (omega arith) (put_standing s ks registers 0 k (Some v) (omega arith) st f) tt) tt) tt) tt) tt

-- ---- the buffer that an answer fills

long : (bytes : List ℕ) → length (buffer_bytes bytes) ≡ 64
long bytes =
    let e1 = length-append bytes (zeros 64) in
    let e2 = length-replicate {A = ℕ} 64 0 in
    length-take-le 64 (bytes ++ zeros 64) (omega (arith, e1, e2))

filled : (s : Setting) (m : Memory) (k : ℕ) (bytes : List ℕ) → IsSetting s → shapes m ≡ shapes_of s
    → k < length s.program.decl.slots → length bytes ≡ 64
    → shapes (with_region (slice_get m (k + 2)) bytes m (k + 2)) ≡ shapes_of s
filled s m k bytes is laid lt e =
    let r = region_of m (k + 2) _ (buffer_at s m k is laid lt) in
    let size : length r.0.bytes ≡ 64 = ap (λ (x : Shape). x.size) r.2 in
    let new : Region = record { base = r.0.base; writable = r.0.writable; bytes = bytes } in
    let same : shape new ≡ shape r.0 = ap (λ (n : ℕ). record { base = r.0.base; writable = r.0.writable; size = n }) (e ∙ sym size) in
    subst (λ (o : Option Region). shapes (with_region o bytes m (k + 2)) ≡ shapes_of s) (sym r.1) (shapes-set m (k + 2) r.0 new r.1 same ∙ laid)

-- ---- helpers

helper_cases : (helper : ℤ) → is_helper helper ≡ true → (P : ℤ → Type 0) → P (pos 1) → P (pos 2) → P (pos 3) → P (pos 4) → P (pos 5) → P helper
helper_cases (pos zero) h P p1 p2 p3 p4 p5 = absurd cc
helper_cases (pos (suc zero)) h P p1 p2 p3 p4 p5 = p1
helper_cases (pos (suc (suc zero))) h P p1 p2 p3 p4 p5 = p2
helper_cases (pos (suc (suc (suc zero)))) h P p1 p2 p3 p4 p5 = p3
helper_cases (pos (suc (suc (suc (suc zero))))) h P p1 p2 p3 p4 p5 = p4
helper_cases (pos (suc (suc (suc (suc (suc zero)))))) h P p1 p2 p3 p4 p5 = p5
helper_cases (pos (suc (suc (suc (suc (suc (suc n))))))) h P p1 p2 p3 p4 p5 =
    let few : suc (suc (suc (suc (suc (suc n))))) ≤ 5 = (let t = (both (leb 1 (suc (suc (suc (suc (suc (suc n)))))))
    (leb (suc (suc (suc (suc (suc (suc n)))))) 5) h).1 in grind (arith, nat_tests)) in
    absurd (omega (arith, few))
helper_cases (negsuc n) h P p1 p2 p3 p4 p5 = absurd cc

or_false : (b : Bool) → (b || false) ≡ true → b ≡ true
or_false true e = refl
or_false false e = absurd cc

module _ (s : Setting) (is : IsSetting s) (ks : Kinds) (c : Config) (all : AllFit s ks c.registers) (stands : IsStanding s c) (ways : Ways) where
  -- the run goes on behind the call
  goes_on : (helper : ℤ) (k v : ℕ) (m : Memory)
      → ways ≡ record { next = Some (after_call ks (answer_kind helper k)); jump = None } → shapes m ≡ shapes_of s
      → Fits s (answer_kind helper k) (Some v)
      → WentOn s c.place c.taken (Call helper) ways (record { place = c.place + 1; registers = emptied c.registers v; memory = m; taken = c.taken + 1 })
  goes_on helper k v m w laid f =
      let st = emptied_fits s ks c.registers (answer_kind helper k) v (all, stands.eleven) f in (
        refl,
        record { eleven = st.1; memory = laid },
        inl (after_call ks (answer_kind helper k), ap (λ (x : Ways). x.next) w, refl, st.0),
      )

  abbrev At : ℕ → Slot → ℤ → Type 0
  At k slot helper = slice_get s.program.decl.slots k ≡ Some slot → called_at ks helper k slot.mode ≡ ok ways → IsSound s c.place c.taken (Call helper) ways (on_slot s c helper k (Some slot))

  ways_are : (k : ℕ) (slot : Slot) (helper : ℤ) → called_at ks helper k slot.mode ≡ ok ways
      → (suffices slot.mode helper ≡ true) × (ways ≡ record { next = Some (after_call ks (answer_kind helper k)); jump = None })
  ways_are k slot helper e =
      let p = check_ok (suffices slot.mode helper) ModeTooWeak (ok (record { next = Some (after_call ks (answer_kind helper k)); jump = None })) ways e in
      (p.0, sym (ok_is _ ways p.1))

  read_answered : (k : ℕ) (slot : Slot) → k < length s.program.decl.slots
      → ways ≡ record { next = Some (after_call ks (MaybeBuffer k)); jump = None } → (a : Said)
      → fits (op.Read (record_of s.args slot)) a ≡ true
      → WentOn s c.place c.taken (Call (pos 1)) ways (answered s k (counted c) a)
  read_answered k slot lt w (said.Value bytes) f = goes_on (pos 1) k (buffer_base s k) _ w (filled s c.memory k (buffer_bytes bytes) is stands.memory lt (long bytes)) (inr refl, lt)
  read_answered k slot lt w said.Absent f = goes_on (pos 1) k 0 _ w (filled s c.memory k (zeros 64) is stands.memory lt (length-replicate {A = ℕ} 64 0)) (inl refl, lt)
  read_answered k slot lt w (said.Done former) f = absurd cc
  read_answered k slot lt w said.Duplicate f = absurd cc
  read_answered k slot lt w said.Missing f = absurd cc
  read_answered k slot lt w said.NoRoom f = absurd cc
  read_answered k slot lt w said.Old f = absurd cc

  reads : (k : ℕ) (slot : Slot) → At k slot (pos 1)
  reads k slot here e =
      let w = (ways_are k slot (pos 1) e).1 in (
        refl,
        refl,
        subst (λ (o : Option Slot). IsBySlot s.args o (op.Read (record_of s.args slot))) (sym here) refl,
        λ a f room. read_answered k slot (slice_get_within s.program.decl.slots k slot here) w a f,
      )

  -- a write answers a number
  write_answered : (helper : ℤ) (k : ℕ) (o : Op)
      → ways ≡ record { next = Some (after_call ks (answer_kind helper k)); jump = None }
      → answer_kind helper k ≡ Number → ((r : _) → o ≡ op.Read r → ⊥) → (a : Said) → fits o a ≡ true
      → WentOn s c.place c.taken (Call helper) ways (answered s k (counted c) a)
  write_answered helper k (op.Read r) w number not_read a f = absurd (not_read r refl)
  write_answered helper k o w number not_read (said.Done former) f = goes_on helper k 0 _ w stands.memory (subst (λ (x : Kind). Fits s x (Some 0)) (sym number) refl)
  write_answered helper k o w number not_read said.Duplicate f = goes_on helper k 1 _ w stands.memory (subst (λ (x : Kind). Fits s x (Some 1)) (sym number) refl)
  write_answered helper k o w number not_read said.Missing f = goes_on helper k 1 _ w stands.memory (subst (λ (x : Kind). Fits s x (Some 1)) (sym number) refl)
  write_answered helper k o w number not_read said.NoRoom f = goes_on helper k 1 _ w stands.memory (subst (λ (x : Kind). Fits s x (Some 1)) (sym number) refl)
  write_answered helper k o w number not_read (said.Value bytes) f = absurd cc
  write_answered helper k o w number not_read said.Absent f = absurd cc
  write_answered helper k o w number not_read said.Old f = absurd cc

  writable : (helper : ℤ) (k : ℕ) (slot : Slot) (o : Op) → suffices slot.mode helper ≡ true
      → (writes slot.mode || false) ≡ suffices slot.mode helper
      → (writes slot.mode ≡ true → IsBySlot s.args (Some slot) o) → slice_get s.program.decl.slots k ≡ Some slot
      → ((a : Said) → fits o a ≡ true → WentOn s c.place c.taken (Call helper) ways (answered s k (counted c) a)) →
      IsSound s c.place c.taken (Call helper) ways (cond (writes slot.mode) (Ask k o (counted c)) (Trap ReadOnlySlot))
  writable helper k slot o enough is_or by here later =
      let w : writes slot.mode ≡ true = or_false (writes slot.mode) (is_or ∙ enough) in
      subst (λ (t : Bool). IsSound s c.place c.taken (Call helper) ways (cond t (Ask k o (counted c)) (Trap ReadOnlySlot))) (sym w)
      (refl, refl, subst (λ (x : Option Slot). IsBySlot s.args x o) (sym here) (by w), λ a f room. later a f)

  inserts : (k : ℕ) (slot : Slot) → At k slot (pos 2)
  inserts k slot here e =
      let p = ways_are k slot (pos 2) e in
      let o : Op = op.Insert (record_of s.args slot) (buffer_of c k) in
      writable (pos 2) k slot o p.0 refl (λ w. (refl, w)) here (write_answered (pos 2) k o p.1 refl (λ r bad. cc))

  updates : (k : ℕ) (slot : Slot) → At k slot (pos 3)
  updates k slot here e =
      let p = ways_are k slot (pos 3) e in
      let o : Op = op.Update (record_of s.args slot) (buffer_of c k) in
      writable (pos 3) k slot o p.0 refl (λ w. (refl, w)) here (write_answered (pos 3) k o p.1 refl (λ r bad. cc))

  deletes : (k : ℕ) (slot : Slot) → At k slot (pos 4)
  deletes k slot here e =
      let p = ways_are k slot (pos 4) e in
      let o : Op = op.Delete (record_of s.args slot) in
      writable (pos 4) k slot o p.0 refl (λ w. (refl, w)) here (write_answered (pos 4) k o p.1 refl (λ r bad. cc))

  lends : (k : ℕ) (slot : Slot) → At k slot (pos 5)
  lends k slot here e =
      let w = (ways_are k slot (pos 5) e).1 in
      let lt = slice_get_within s.program.decl.slots k slot here in
      let reach = ((laid_of s is).buffer k lt).reach in
      goes_on (pos 5) k (buffer_base s k) c.memory w stands.memory (ap (λ (n : ℕ). Some n) (sym (address_zero (buffer_base s k) (omega (arith, reach)))), lt)

  at_slot : (helper : ℤ) (k : ℕ) (o : Option Slot) → is_helper helper ≡ true → slice_get s.program.decl.slots k ≡ o
      → called_slot ks helper k o ≡ ok ways → IsSound s c.place c.taken (Call helper) ways (on_slot s c helper k o)
  at_slot helper k None is_one here e = absurd (refused SlotUnknown ways e)
  at_slot helper k (Some slot) is_one here e = helper_cases helper is_one (At k slot) (reads k slot) (inserts k slot) (updates k slot) (deletes k slot) (lends k slot) here e

  by_kind : (helper : ℤ) (kind : Kind) → is_helper helper ≡ true → Fits s kind (register c 1)
      → called_by s.program.decl ks helper kind ≡ ok ways
      → IsSound s c.place c.taken (Call helper) ways (call s c helper)
  by_kind helper (Const k) is_one f e =
      subst (λ (o : Option ℕ). IsSound s c.place c.taken (Call helper) ways (need EmptyRead o (λ n. on_slot s c helper n (slice_get s.program.decl.slots n)))) (sym f.0)
      (at_slot helper k (slice_get s.program.decl.slots k) is_one refl e)
  by_kind helper kind is_one f e = absurd (refused SlotUnknown ways e)

  pub call_sound : (helper : ℤ) → called_ways s.program.decl ks helper ≡ ok ways → IsSound s c.place c.taken (Call helper) ways (call s c helper)
  call_sound helper e =
      let p = check_ok (is_present (kind_at ks 1)) EmptyRegister (check (is_helper helper) UnknownHelper (called_by s.program.decl ks helper (kind_at ks 1))) ways e in
      let q = check_ok (is_helper helper) UnknownHelper (called_by s.program.decl ks helper (kind_at ks 1)) ways p.1 in
      by_kind helper (kind_at ks 1) q.0 (all.at 1) q.1
