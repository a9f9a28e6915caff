-- Operations in flight are covered by their transactions' locks, and no two of them conflict.
use Rattle.std.proofs.Common.{◌≡◌, ◌≢◌, ℕ, Bool, true, false, not, ◌&&◌, cond, List, [], ◌∷◌, Option}
use Rattle.std.proofs.Common.{Some, None, arith, refl, sym, ◌∙◌, ap, subst, inl, inr, ◌==◌}
use Rattle.std.proofs.lemmas.Bool.{cases_eq, cond-true, cond-false}
use Rattle.access_slots.specs.declared.op.Op.{Op}
use Rattle.access_slots.specs.declared.slot.Record.{Record}
use Rattle.access_slots.specs.declared.slot.Mode.{Mode}
use Rattle.access_slots.specs.declared.slot.Mode.TheVariants as mode
use Rattle.access_slots.specs.Held.{excludes}
use Rattle.access_slots.specs.Locks.{record_eq, allows, target, is_read, conflict}
use Rattle.verifier.specs.Checked.{Checked}
use Rattle.tc_log.specs.declared.event.Event.{Event}
use Rattle.tc_log.specs.declared.event.Event.TheVariants.{Admit, Ask, Answer, Undo, End}
use Rattle.history.specs.Calls.{Call, txn_of, held, held_for, open_call, locks_of}
use Rattle.history.specs.Flight.{Flight, open_op}
use Rattle.transactions.specs.declared.Sent.{Sent}
use Rattle.transactions.specs.Standing.{Standing, standing, moved, fresh, asked, undone, sent_as}
use Rattle.transactions.specs.Reached.{decls, AllGood}
use Rattle.transactions.specs.Legal.{Legal}
use Rattle.transactions.proofs.StandingLemmas.{eq-true, eq-false, some_same, none_some, standing-same, standing-other, standing-kept, standing-above}
use Rattle.access_slots.proofs.Records.{eq_is}
use Rattle.transactions.proofs.Sound.{standing_sound}
use Rattle.transactions.proofs.Flights.{flight}

-- ---- the open call is the standing's

abbrev pub call_in : Option Standing → Option Call
call_in None = None
call_in (Some s) = Some s.call

-- an event that leaves a transaction its call
same_call : (e : Event) (b : Bool) (s : Option Standing)
    → ((x : Standing) → call_in (moved e (Some x)) ≡ Some x.call) → moved e None ≡ None
    → call_in (cond b (moved e s) s) ≡ call_in s
same_call e true None h none = ap call_in none
same_call e true (Some x) h none = h x
same_call e false s h none = refl

pub calls_agree : (h : List Event) (t : ℕ) → call_in (standing h t) ≡ open_call h t
calls_agree [] t = refl
calls_agree (Admit u p args ∷ h) t = by (u == t) (calls_agree h t)
  where
    by : (b : Bool) → call_in (standing h t) ≡ open_call h t
        → call_in (cond b (Some (fresh (record { proc = p; args = args }))) (standing h t)) ≡ cond b (Some (record { proc = p; args = args })) (open_call h t)
    by true e = refl
    by false e = e
calls_agree (End u outcome ∷ h) t = by (u == t) (calls_agree h t)
  where
    by : (b : Bool) → call_in (standing h t) ≡ open_call h t → call_in (cond b None (standing h t)) ≡ cond b None (open_call h t)
    by true e = refl
    by false e = e
calls_agree (e ∷ h) t = same_call e (txn_of e == t) (standing h t) (λ x. refl) refl ∙ calls_agree h t

-- who isn't open has no call
pub no_call : (ps : List Checked) (h : List Event) (t : ℕ) → standing h t ≡ None → open_call h t ≡ None
no_call ps h t none = sym (calls_agree h t) ∙ ap call_in none

pub held_is : (ps : List Checked) (h : List Event) (t : ℕ) (s : Standing) (r : Record) → standing h t ≡ Some s
    → held (decls ps) h t r ≡ locks_of (decls ps) s.call r
held_is ps h t s r is = ap (λ (c : Option Call). held_for (decls ps) c r) (sym (calls_agree h t) ∙ ap call_in is)

-- ---- no two open transactions hold locks that exclude each other

excludes_sym : (a b : Option Mode) → excludes a b ≡ excludes b a
excludes_sym None None = refl
excludes_sym None (Some mode.Read) = refl
excludes_sym None (Some mode.Write) = refl
excludes_sym (Some mode.Read) None = refl
excludes_sym (Some mode.Write) None = refl
excludes_sym (Some mode.Read) (Some mode.Read) = refl
excludes_sym (Some mode.Read) (Some mode.Write) = refl
excludes_sym (Some mode.Write) (Some mode.Read) = refl
excludes_sym (Some mode.Write) (Some mode.Write) = refl

nothing_excludes : (a : Option Mode) → excludes a None ≡ false
nothing_excludes None = refl
nothing_excludes (Some mode.Read) = refl
nothing_excludes (Some mode.Write) = refl

held_new : (ps : List Checked) (h : List Event) (v p : ℕ) (args : List ℕ) (t : ℕ) (r : Record) → v ≡ t
    → held (decls ps) (Admit v p args ∷ h) t r ≡ locks_of (decls ps) (record { proc = p; args = args }) r
held_new ps h v p args t r same =
    ap (λ (c : Option Call). held_for (decls ps) c r)
    (cond-true _ (Some (record { proc = p; args = args })) (open_call h t) (eq-true v t same))

held_old : (ps : List Checked) (h : List Event) (v p : ℕ) (args : List ℕ) (t : ℕ) (r : Record) → v ≢ t
    → held (decls ps) (Admit v p args ∷ h) t r ≡ held (decls ps) h t r
held_old ps h v p args t r other =
    ap (λ (c : Option Call). held_for (decls ps) c r)
    (cond-false _ (Some (record { proc = p; args = args })) (open_call h t) (eq-false v t other))

end_new : (b : Bool) (ps : List Checked) (c : Option Call) (r : Record) (m : Option Mode)
    → excludes (held_for (decls ps) c r) m ≡ false → excludes (held_for (decls ps) (cond b None c) r) m ≡ false
end_new true ps c r m e = refl
end_new false ps c r m e = e

end_old : (b : Bool) (ps : List Checked) (c : Option Call) (r : Record) (m : Option Mode)
    → excludes m (held_for (decls ps) c r) ≡ false → excludes m (held_for (decls ps) (cond b None c) r) ≡ false
end_old true ps c r m e = nothing_excludes m
end_old false ps c r m e = e

pub held_apart : (ps : List Checked) (h : List Event) → Legal ps h → (t u : ℕ) (r : Record) → t ≢ u
    → excludes (held (decls ps) h t r) (held (decls ps) h u r) ≡ false
held_apart ps [] legal t u r differ = refl
held_apart ps (Admit v p args ∷ h) legal t u r differ =
    let free = legal.0.free in
    elim (cases_eq v t) [
      | inl same ↦
          let other : v ≢ u = (λ e. differ (sym same ∙ e)) in
          ap (λ (m : Option Mode). excludes m (held (decls ps) (Admit v p args ∷ h) u r)) (held_new ps h v p args t r same)
          ∙ (ap (excludes (locks_of (decls ps) (record { proc = p; args = args }) r)) (held_old ps h v p args u r other) ∙ free r u)
      | inr other ↦ elim (cases_eq v u) [
        | inl same ↦
            excludes_sym (held (decls ps) (Admit v p args ∷ h) t r) (held (decls ps) (Admit v p args ∷ h) u r)
            ∙ (ap (λ (m : Option Mode). excludes m (held (decls ps) (Admit v p args ∷ h) t r)) (held_new ps h v p args u r same)
            ∙ (ap (excludes (locks_of (decls ps) (record { proc = p; args = args }) r)) (held_old ps h v p args t r other) ∙ free r t))
        | inr other' ↦
            ap (λ (m : Option Mode). excludes m (held (decls ps) (Admit v p args ∷ h) u r)) (held_old ps h v p args t r other)
            ∙ (ap (excludes (held (decls ps) h t r)) (held_old ps h v p args u r other') ∙ held_apart ps h legal.1 t u r differ)
      ]
    ]
held_apart ps (End v outcome ∷ h) legal t u r differ =
    end_new (v == t) ps (open_call h t) r (held (decls ps) (End v outcome ∷ h) u r)
    (end_old (v == u) ps (open_call h u) r (held (decls ps) h t r) (held_apart ps h legal.1 t u r differ))
held_apart ps (_ ∷ h) legal t u r differ = held_apart ps h legal.1 t u r differ

-- ---- what is in flight, a transaction waits for

-- the transaction that waits for it
pub record Awaits (h : List Event) (n : ℕ) (f : Flight) : Type 0 where
  pub s : Standing
  pub is : standing h f.txn ≡ Some s
  pub r : Sent
  pub waits : s.sent ≡ Some r
  pub number : r.number ≡ n
  pub op : r.op ≡ f.op

sent_awaits : (h : List Event) (e : Event) (u n m : ℕ) (o : Op) (b : Bool) (f : Flight) (s' : Standing) → txn_of e ≡ u
    → Some (flight u o) ≡ Some f → m ≡ n → standing (e ∷ h) u ≡ Some s' → s'.sent ≡ sent_as m o b → Awaits (e ∷ h) n f
sent_awaits h e u n m o b f s' own same number is sent =
    let it = some_same (flight u o) f same in
    record {
      s = s';
      is = ap (standing (e ∷ h)) (sym (ap (λ (x : Flight). x.txn) it)) ∙ is;
      r = record {
        number = m;
        op
            = o;
        undoing = b;
      };
      waits = sent;
      number = number;
      op = ap (λ (x : Flight). x.op) it;
    }

still_awaits : (h : List Event) (e : Event) (n : ℕ) (f : Flight) → txn_of e ≢ f.txn → Awaits h n f → Awaits (e ∷ h) n f
still_awaits h e n f other a = record { s = a.s; is = standing-other e h f.txn other ∙ a.is; r = a.r; waits = a.waits; number = a.number; op = a.op }

-- one that waits for nothing isn't the one that waits
idle_other : (h : List Event) (u n : ℕ) (f : Flight) (s : Standing) → standing h u ≡ Some s → s.sent ≡ None → Awaits h n f → u ≢ f.txn
idle_other h u n f s is idle a same =
    let one : s ≡ a.s = some_same s a.s (sym is ∙ (ap (standing h) same ∙ a.is)) in
    none_some s.sent a.r idle (ap (λ (x : Standing). x.sent) one ∙ a.waits)

pub awaited : (ps : List Checked) (h : List Event) → Legal ps h → (n : ℕ) (f : Flight) → open_op h n ≡ Some f → Awaits h n f
awaited ps [] legal n f is = absurd cc
awaited ps (Admit u p args ∷ h) legal n f is =
    let ih = awaited ps h legal.1 n f is in
    let next = legal.0.next in
    let other : u ≢ f.txn = (λ same. none_some _ ih.s (standing-above ps h legal.1 f.txn (omega (arith, next, same))) ih.is) in
    still_awaits h (Admit u p args) n f other ih
awaited ps (Ask u m o ∷ h) legal n f is =
    let a = legal.0 in
    elim (cases_eq m n) [
      | inl same ↦ sent_awaits h (Ask u m o) u n m o false f (asked m o a.s) refl (sym (cond-true _ _ _ (eq-true m n
          same)) ∙ is) same (standing-same (Ask u m o) h u refl ∙ ap (moved (Ask u m o)) a.is) refl
      | inr differ ↦
          let ih = awaited ps h legal.1 n f (sym (cond-false _ _ _ (eq-false m n differ)) ∙ is) in
          still_awaits h (Ask u m o) n f (idle_other h u n f a.s a.is a.idle ih) ih
    ]
awaited ps (Undo u m o ∷ h) legal n f is =
    let a = legal.0 in
    elim (cases_eq m n) [
      | inl same ↦ sent_awaits h (Undo u m o) u n m o true f (undone m o a.s) refl (sym (cond-true _ _ _ (eq-true m n
          same)) ∙ is) same (standing-same (Undo u m o) h u refl ∙ ap (moved (Undo u m o)) a.is) refl
      | inr differ ↦
          let ih = awaited ps h legal.1 n f (sym (cond-false _ _ _ (eq-false m n differ)) ∙ is) in
          still_awaits h (Undo u m o) n f (idle_other h u n f a.s a.is a.idle ih) ih
    ]
awaited ps (Answer u m said ∷ h) legal n f is =
    let a = legal.0 in
    elim (cases_eq m n) [
      | inl same ↦ absurd (none_some _ f (cond-true _ None (open_op h n) (eq-true m n same)) is)
      | inr differ ↦
          let ih = awaited ps h legal.1 n f (sym (cond-false _ None (open_op h n) (eq-false m n differ)) ∙ is) in
          let other : u ≢ f.txn = (λ same.
          let one : a.s ≡ ih.s = some_same a.s ih.s (sym a.is ∙ (ap (standing h) same ∙ ih.is)) in
          let sent : a.r ≡ ih.r = some_same a.r ih.r (sym a.waits ∙ (ap (λ (x : Standing). x.sent) one ∙ ih.waits)) in
          differ (sym a.number ∙ (ap (λ (x : Sent). x.number) sent ∙ ih.number))) in
          still_awaits h (Answer u m said) n f other ih
    ]
awaited ps (End u outcome ∷ h) legal n f is =
    let ih = awaited ps h legal.1 n f is in
    still_awaits h (End u outcome) n f (idle_other h u n f legal.0.s legal.0.is legal.0.idle ih) ih
awaited ps (e ∷ h) legal n f is =
    let ih = awaited ps h legal.1 n f is in
    record { s = ih.s; is = standing-kept e h f.txn (λ was. refl) ∙ ih.is; r = ih.r; waits = ih.waits; number = ih.number; op = ih.op }

-- ---- the headline

pub flight_covered : (ps : List Checked) (h : List Event) → AllGood ps → Legal ps h → (n : ℕ) (f : Flight)
    → open_op h n ≡ Some f → allows (held (decls ps) h f.txn (target f.op)) (is_read f.op) ≡ true
flight_covered ps h good legal n f is =
    let a = awaited ps h legal n f is in
    let within = (standing_sound ps good h legal f.txn a.s a.is).within a.r a.waits in
    let mine : allows (held (decls ps) h f.txn (target a.r.op)) (is_read a.r.op) ≡ true = ap (λ (m : Option Mode).
    allows m (is_read a.r.op)) (held_is ps h f.txn a.s (target a.r.op) a.is) ∙ within in
    subst (λ (x : Op). allows (held (decls ps) h f.txn (target x)) (is_read x) ≡ true) a.op mine

both_read : (a b : Option Mode) (ra rb : Bool) → allows a ra ≡ true → allows b rb ≡ true → excludes a b ≡ false → not (ra && rb) ≡ false
both_read None b ra rb e f x = absurd cc
both_read (Some a) None ra rb e f x = absurd cc
both_read (Some mode.Read) (Some mode.Read) true true e f x = refl
both_read (Some mode.Read) (Some mode.Read) false rb e f x = absurd cc
both_read (Some mode.Read) (Some mode.Read) true false e f x = absurd cc
both_read (Some mode.Read) (Some mode.Write) ra rb e f x = absurd cc
both_read (Some mode.Write) (Some mode.Read) ra rb e f x = absurd cc
both_read (Some mode.Write) (Some mode.Write) ra rb e f x = absurd cc

pub flights_apart : (ps : List Checked) (h : List Event) → AllGood ps → Legal ps h → (m n : ℕ) (f g : Flight)
    → open_op h m ≡ Some f → open_op h n ≡ Some g → m ≢ n → conflict f.op g.op ≡ false
flights_apart ps h good legal m n f g is are differ = by (record_eq (target f.op) (target g.op)) refl
  where
    other : f.txn ≢ g.txn
    other same =
        let a = awaited ps h legal m f is in
        let b = awaited ps h legal n g are in
        let one : a.s ≡ b.s = some_same a.s b.s (sym a.is ∙ (ap (standing h) same ∙ b.is)) in
        let sent : a.r ≡ b.r = some_same a.r b.r (sym a.waits ∙ (ap (λ (x : Standing). x.sent) one ∙ b.waits)) in
        differ (sym a.number ∙ (ap (λ (x : Sent). x.number) sent ∙ b.number))

    by : (b : Bool) → record_eq (target f.op) (target g.op) ≡ b → (b && not (is_read f.op && is_read g.op)) ≡ false
    by false e = refl
    by true e =
        let same = eq_is (target f.op) (target g.op) e in
        let one = flight_covered ps h good legal m f is in
        let two : allows (held (decls ps) h g.txn (target f.op)) (is_read g.op) ≡ true = ap (λ (r : Record). allows
        (held (decls ps) h g.txn r) (is_read g.op)) same ∙ flight_covered ps h good legal n g are in
        both_read _ _ (is_read f.op) (is_read g.op) one two (held_apart ps h legal f.txn g.txn (target f.op) other)
