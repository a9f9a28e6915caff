-- One more procedure leaves a legal history legal, and all that it says.
use Rattle.std.proofs.Common.{◌≡◌, ◌⊎◌, ℕ, Bool, true, false, cond, List, [], ◌∷◌, ◌++◌, Option, Some}
use Rattle.std.proofs.Common.{None, refl, sym, ◌∙◌, ap, subst, zero, suc, inl, inr, ◌==◌}
use Rattle.std.specs.Prelude.{slice_get}
use Rattle.access_slots.specs.Declaration.{Declaration}
use Rattle.access_slots.specs.Held.{excludes, Compatible}
use Rattle.access_slots.specs.declared.slot.Record.{Record}
use Rattle.access_slots.specs.declared.slot.Mode.{Mode}
use Rattle.verifier.specs.Checked.{Checked}
use Rattle.tc_log.specs.declared.event.Event.{Event}
use Rattle.tc_log.specs.declared.event.Event.TheVariants.{Admit, Ask, Answer, Undo, End, Checkpoint}
use Rattle.history.specs.Calls.{Call, held, held_for, open_call, locks_by, locks_of}
use Rattle.transactions.specs.Standing.{Standing, standing}
use Rattle.transactions.specs.Reached.{reached, reached_by, decls, calls, calls_by, IsGood, AllGood}
use Rattle.transactions.specs.Legal.{Legal, is_stopped, ending, first_undo}
use Rattle.transactions.proofs.Running.{get_decl}
use Rattle.transactions.proofs.Sound.{standing_sound}

-- a procedure that is there stays there
pub get_grows : (ps : List Checked) (q v : Checked) (p : ℕ) → slice_get ps p ≡ Some v → slice_get (ps ++ q ∷ []) p ≡ Some v
get_grows [] q v p e = absurd cc
get_grows (x ∷ ps) q v zero e = e
get_grows (x ∷ ps) q v (suc p) e = get_grows ps q v p e

-- what is there was there, or is the new one
pub get_cases : (ps : List Checked) (q v : Checked) (p : ℕ) → slice_get (ps ++ q ∷ []) p ≡ Some v → (slice_get ps p ≡ Some v) ⊎ (q ≡ v)
get_cases [] q v zero e = inr (let f : Some q ≡ Some v = e in cc)
get_cases [] q v (suc p) e = absurd cc
get_cases (x ∷ ps) q v zero e = inl e
get_cases (x ∷ ps) q v (suc p) e = get_cases ps q v p e

pub locks_grow : (ps : List Checked) (q v : Checked) (call : Call) (r : Record) → slice_get ps call.proc ≡ Some v
    → locks_of (decls (ps ++ q ∷ [])) call r ≡ locks_of (decls ps) call r
locks_grow ps q v call r at =
    let now = get_decl (ps ++ q ∷ []) call.proc v (get_grows ps q v call.proc at) in
    let was = get_decl ps call.proc v at in
    ap (λ (d : Option Declaration). locks_by d call.args r) (now ∙ sym was)

held_choice : (ps : List Checked) (q : Checked) (b : Bool) (c d : Option Call) (r : Record)
    → held_for (decls (ps ++ q ∷ [])) c r ≡ held_for (decls ps) c r
    → held_for (decls (ps ++ q ∷ [])) d r ≡ held_for (decls ps) d r
    → held_for (decls (ps ++ q ∷ [])) (cond b c d) r ≡ held_for (decls ps) (cond b c d) r
held_choice ps q true c d r e f = e
held_choice ps q false c d r e f = f

pub held_grows : (ps : List Checked) (q : Checked) (h : List Event) → Legal ps h → (t : ℕ) (r : Record)
    → held (decls (ps ++ q ∷ [])) h t r ≡ held (decls ps) h t r
held_grows ps q [] legal t r = refl
held_grows ps q (Admit u p args ∷ h) legal t r =
    held_choice ps q (u == t) (Some (record { proc = p; args = args })) (open_call h t) r (locks_grow ps q legal.0.q
    (record { proc = p; args = args }) r legal.0.loaded) (held_grows ps q h legal.1 t r)
held_grows ps q (End u outcome ∷ h) legal t r = held_choice ps q (u == t) None (open_call h t) r refl (held_grows ps q h legal.1 t r)
held_grows ps q (_ ∷ h) legal t r = held_grows ps q h legal.1 t r

module _ (ps : List Checked) (q : Checked) (good : AllGood ps) where
  pub reached_grows : (h : List Event) → Legal ps h → (t : ℕ) (s : Standing) → standing h t ≡ Some s → reached (ps ++ q ∷ []) s ≡ reached ps s
  reached_grows h legal t s is =
      let it = standing_sound ps good h legal t s is in
      ap (λ (o : Option Checked). reached_by o s.call.args s.answers) (get_grows ps q it.q s.call.proc it.loaded ∙ sym it.loaded)

  pub calls_grow : (h : List Event) → Legal ps h → (t : ℕ) (s : Standing) → standing h t ≡ Some s
      → calls (ps ++ q ∷ []) s.call.proc ≡ calls ps s.call.proc
  calls_grow h legal t s is = (let it = standing_sound ps good h legal t s is in ap calls_by (get_grows ps q it.q s.call.proc it.loaded ∙ sym it.loaded))

  pub legal_grows : (h : List Event) → Legal ps h → Legal (ps ++ q ∷ []) h
  legal_grows [] legal = tt
  legal_grows (Admit t p args ∷ h) legal =
      let a = legal.0 in
      let call : Call = record { proc = p; args = args } in
      let free : Compatible (held (decls (ps ++ q ∷ [])) h) (locks_of (decls (ps ++ q ∷ [])) call) = (λ r u.
      ap (λ (m : Option Mode). excludes m (held (decls (ps ++ q ∷ [])) h u r)) (locks_grow ps q a.q call r a.loaded) ∙
      (ap (excludes (locks_of (decls ps) call r)) (held_grows ps q h legal.1 u r) ∙ a.free r u)) in
      (record { next = a.next; q = a.q; loaded = get_grows ps q a.q p a.loaded; takes = a.takes; free = free }, legal_grows h legal.1)
  legal_grows (Ask t n o ∷ h) legal =
      let a = legal.0 in (
        record {
          s = a.s;
          is = a.is;
          idle = a.idle;
          not_full = a.not_full;
          asks = reached_grows h legal.1 t a.s a.is ∙ a.asks;
          next = a.next;
        },
        legal_grows h legal.1,
      )
  legal_grows (Answer t n said ∷ h) legal =
      let a = legal.0 in
      (record { s = a.s; is = a.is; r = a.r; waits = a.waits; number = a.number; fit = a.fit }, legal_grows h legal.1)
  legal_grows (Undo t n o ∷ h) legal =
      let a = legal.0 in (
        record {
          s = a.s;
          is = a.is;
          idle = a.idle;
          stopped = ap (is_stopped a.s.full) (reached_grows h legal.1 t a.s
              a.is) ∙ a.stopped;
          top = a.top;
          few = a.few;
          next = a.next;
        },
        legal_grows h legal.1,
      )
  legal_grows (End t outcome ∷ h) legal =
      let a = legal.0 in (
        record {
          s = a.s;
          is = a.is;
          idle = a.idle;
          ends = ap (ending a.s.full (first_undo a.s.undo)) (reached_grows h legal.1 t a.s a.is) ∙ a.ends;
        },
        legal_grows h legal.1,
      )
  legal_grows (Checkpoint before numbers ∷ h) legal =
      let a = legal.0 in
      (record { oldest = a.oldest; few_admitted = a.few_admitted; few_given = a.few_given }, legal_grows h legal.1)

  pub good_grows : IsGood q → AllGood (ps ++ q ∷ [])
  good_grows one = λ p v e. elim (get_cases ps q v p e) [ inl was ↦ good p v was | inr new ↦ subst IsGood new one ]
