-- What a book takes in is what may come next.
use Rattle.std.proofs.Common.{◌≡◌, ◌≢◌, ℕ, ◌+◌, true, false, List, [], ◌∷◌, ◌++◌, length, replicate, zero, suc, Option}
use Rattle.std.proofs.Common.{Some, None, Result, Ok, Err, arith, refl, sym, ◌∙◌, ap, subst}
use Rattle.std.proofs.Common.{append_assoc, length-append}
use Rattle.std.proofs.lemmas.List.{append-nil}
use Rattle.std.specs.Prelude.{slice_get, OnOk, OnErr}
use Rattle.std.proofs.lemmas.Bool.{cond-true}
use Rattle.access_slots.specs.declared.op.Op.{Op}
use Rattle.access_slots.specs.declared.op.Said.{Said}
use Rattle.access_slots.specs.declared.slot.Record.{Record}
use Rattle.access_slots.specs.Access.{fits}
use Rattle.access_slots.specs.Locks.{target}
use Rattle.access_slots.specs.Held.{in_the_way}
use Rattle.verifier.specs.Checked.{Checked}
use Rattle.request_numbers.specs.Given.{others}
use Rattle.tc_log.specs.declared.event.Event.{Event}
use Rattle.tc_log.specs.declared.event.Event.TheVariants.{Ask, Answer, Undo, End}
use Rattle.tc_log.specs.declared.event.Outcome.{Outcome}
use Rattle.tc_log.specs.declared.event.Outcome.TheVariants as outcome
use Rattle.history.specs.Calls.{Call, admitted, held, locks_of}
use Rattle.history.specs.Flight.{given}
use Rattle.history.specs.Places.{StandsAt, Begins}
use Rattle.transactions.specs.declared.Sent.{Sent}
use Rattle.transactions.specs.declared.Next.{Next}
use Rattle.transactions.specs.declared.Next.TheVariants as next
use Rattle.transactions.specs.Standing.{Standing, standing}
use Rattle.transactions.specs.Reached.{decls}
use Rattle.transactions.specs.Legal.{Legal, Allowed, CanAdmit, CanAsk, CanAnswer, CanUndo, CanEnd}
use Rattle.transactions.proofs.StandingLemmas.{eq-true, some_same, none_some}
use Rattle.transactions.proofs.Allowing.{asks_allowed, undoes_allowed, ends_allowed}
use Rattle.transactions.specs.declared.Site.{Site}
use Rattle.transactions.specs.InFlight.{untold, site_of}
use Rattle.tc_core.specs.Core.{Core, Asking}
use Rattle.tc_core.specs.Replies.{next_at, asked_by, undo_by, undone, ask_reply, undo_reply, after_ask, after_undo}
use Rattle.tc_core.specs.Replies.{over_in, end_of, end_reply, after_end, is_heard, IsAnswer, after_answer}
use Rattle.tc_core.specs.Checking.{IsFirstIllegal}
use Rattle.tc_core.specs.Joining.Follows.{AreUntold, IsAsked, IsFurther, awaited_by, awaited_in}
use Rattle.tc_core.specs.declared.state.Receipt.{Receipt}
use Rattle.tc_core.specs.declared.state.NotOver.{NotOver}
use Rattle.tc_core.specs.declared.state.Stranger.{Stranger}
use Rattle.tc_core.specs.declared.state.Asked.{Asked}
use Rattle.tc_core.specs.declared.state.Asked.TheVariants as reply

abbrev pub request : ℕ → ℕ → Op → Asking
request t n o = record { txn = t; number = n; op = o }

same_request : (a b : Asked) (r q : Asking) → a ≡ b → a ≡ reply.Request r → b ≡ reply.Request q → r ≡ q
same_request a b r q e f g = cc

-- ---- asks

ask_txn : (t last : ℕ) (n : Option Next) (r : Asking) → asked_by t last n ≡ reply.Request r → r.txn ≡ t
ask_txn t last None r e = absurd cc
ask_txn t last (Some (next.Waits n)) r e = absurd cc
ask_txn t last (Some (next.Asks o)) r e = (let this : Asking = record { txn = t; number = last + 1; op = o } in
    let same : this ≡ r = cc in sym (ap (λ (x : Asking). x.txn) same))
ask_txn t last (Some (next.Undoes o)) r e = absurd cc
ask_txn t last (Some (next.Stuck n)) r e = absurd cc
ask_txn t last (Some (next.Over o)) r e = absurd cc

same_ask : (t u n m : ℕ) (o q : Op) (h : List Event) → t ≡ u → n ≡ m → o ≡ q → Ask t n o ∷ h ≡ Ask u m q ∷ h
same_ask t u n m o q h e f g = cc

same_undo : (t u n m : ℕ) (o q : Op) (h : List Event) → t ≡ u → n ≡ m → o ≡ q → Undo t n o ∷ h ≡ Undo u m q ∷ h
same_undo t u n m o q h e f g = cc

pub ask_follows : (c : Core) (t n : ℕ) (o : Op) (a : Asked) (h : List Event) → a ≡ ask_reply c t
    → h ≡ (after_ask c a).events → IsAsked a n o → h ≡ Ask t n o ∷ c.events
ask_follows c t n o (reply.Request r) h is after asked = after
    ∙ same_ask r.txn t r.number n r.op o c.events (ask_txn t (given c.events) (next_at c t) r (sym is)) asked.number asked.op
ask_follows c t n o reply.Undoing h is after asked = absurd asked
ask_follows c t n o reply.Over h is after asked = absurd asked
ask_follows c t n o (reply.Stuck m) h is after asked = absurd asked
ask_follows c t n o (reply.Waits m) h is after asked = absurd asked
ask_follows c t n o reply.Running h is after asked = absurd asked
ask_follows c t n o reply.Unknown h is after asked = absurd asked

pub ask_else : (c : Core) (t n : ℕ) (o : Op) (a : Asked) → a ≡ ask_reply c t → (IsAsked a n o → ⊥) → CanAsk c.procs c.events t n o → ⊥
unfolding next_at
ask_else c t n o a is not can =
    let can' : CanAsk c.procs c.events t (given c.events + 1) o = subst (λ (k : ℕ). CanAsk c.procs c.events t k o) can.next can in
    let does : next_at c t ≡ Some (next.Asks o) = (asks_allowed c.procs c.events t o).1 can' in
    let reply_is : a ≡ asked_by t (given c.events) (Some (next.Asks o)) = is ∙ ap (asked_by t (given c.events)) does in
    not (subst (λ (x : Asked). IsAsked x n o) (sym reply_is) (record { number = sym can.next; op = refl }))

-- ---- undos

never_asks : (o : Outcome) (r : Asking) → undone o ≡ reply.Request r → ⊥
never_asks outcome.Committed r e = cc
never_asks (outcome.Aborted v) r e = cc
never_asks outcome.NoRoom r e = cc

undo_txn : (t last : ℕ) (n : Option Next) (r : Asking) → undo_by t last n ≡ reply.Request r → r.txn ≡ t
undo_txn t last None r e = absurd cc
undo_txn t last (Some (next.Waits n)) r e = absurd cc
undo_txn t last (Some (next.Asks o)) r e = absurd cc
undo_txn t last (Some (next.Undoes o)) r e = (let this : Asking = record { txn = t; number = last + 1; op = o } in
    let same : this ≡ r = cc in sym (ap (λ (x : Asking). x.txn) same))
undo_txn t last (Some (next.Stuck n)) r e = absurd cc
undo_txn t last (Some (next.Over o)) r e = absurd (never_asks o r e)

pub undo_follows : (c : Core) (t n : ℕ) (o : Op) (a : Asked) (h : List Event) → a ≡ undo_reply c t
    → h ≡ (after_undo c a).events → IsAsked a n o → h ≡ Undo t n o ∷ c.events
undo_follows c t n o (reply.Request r) h is after asked = after
    ∙ same_undo r.txn t r.number n r.op o c.events (undo_txn t (given c.events) (next_at c t) r
    (sym is)) asked.number asked.op
undo_follows c t n o reply.Undoing h is after asked = absurd asked
undo_follows c t n o reply.Over h is after asked = absurd asked
undo_follows c t n o (reply.Stuck m) h is after asked = absurd asked
undo_follows c t n o (reply.Waits m) h is after asked = absurd asked
undo_follows c t n o reply.Running h is after asked = absurd asked
undo_follows c t n o reply.Unknown h is after asked = absurd asked

pub undo_else : (c : Core) (t n : ℕ) (o : Op) (a : Asked) → a ≡ undo_reply c t → (IsAsked a n o → ⊥) → CanUndo c.procs c.events t n o → ⊥
unfolding next_at
undo_else c t n o a is not can =
    let can' : CanUndo c.procs c.events t (given c.events + 1) o = subst (λ (k : ℕ). CanUndo c.procs c.events t k o) can.next can in
    let does : next_at c t ≡ Some (next.Undoes o) = (undoes_allowed c.procs c.events t o).1 can' in
    let reply_is : a ≡ undo_by t (given c.events) (Some (next.Undoes o)) = is ∙ ap (undo_by t (given c.events)) does in
    not (subst (λ (x : Asked). IsAsked x n o) (sym reply_is) (record { number = sym can.next; op = refl }))

-- ---- answers

awaits_it : (s : Standing) (r : Sent) (n : ℕ) → s.sent ≡ Some r → r.number ≡ n → awaited_by s.sent n ≡ Some r.op
awaits_it s r n waits number = ap (λ (x : Option Sent). awaited_by x n) waits ∙ cond-true _ (Some r.op) None (eq-true r.number n number)

-- where an answer may come, its operation is awaited
pub awaited_if : (c : Core) (t n : ℕ) (said : Said) → (can : CanAnswer c.procs c.events t n said) → awaited_in (standing c.events t) n ≡ Some can.r.op
awaited_if c t n said can = ap (λ (x : Option Standing). awaited_in x n) can.is ∙ awaits_it can.s can.r n can.waits can.number

pub not_awaited : (c : Core) (t n : ℕ) (said : Said) → None ≡ awaited_in (standing c.events t) n → CanAnswer c.procs c.events t n said → ⊥
not_awaited c t n said none can = none_some _ can.r.op (sym none) (awaited_if c t n said can)

-- nothing is told of so many new data components
pub are_untold : (n : ℕ) → AreUntold (replicate n untold)
are_untold zero d = refl
are_untold (suc n) zero = refl
are_untold (suc n) (suc d) = are_untold n d

-- where nothing is told of data components each is up, and of incarnation 0
heard_untold : (sites : List Site) (o : Op) (n : ℕ) (said : Said) → AreUntold sites
    → is_heard (site_of sites o) (record { number = n; incarnation = 0; said = said }) ≡ true
heard_untold sites o n said untold = rw (untold (target o).dc) refl

pub answer_else : (c : Core) (t n : ℕ) (o : Op) (said : Said) → AreUntold c.sites
    → Some o ≡ awaited_in (standing c.events t) n → (IsAnswer c (request t n o)
    (record { number = n; incarnation = 0; said = said }) → ⊥) → CanAnswer c.procs c.events t n said → ⊥
answer_else c t n o said none some not can =
    let same : can.r.op ≡ o = some_same can.r.op o (sym (awaited_if c t n said can) ∙ sym some) in
    not (record {
      s = can.s;
      is = can.is;
      sent = can.r;
      waits = can.waits;
      same_number = can.number;
      same_op =
          same;
      heard = heard_untold c.sites o n said none;
      agree = refl;
      fit =
          subst (λ (x : Op). fits x said ≡ true) same can.fit;
    })

-- ---- ends

pub end_follows : (c : Core) (t : ℕ) (o : Outcome) (r : Receipt) (e : Option Outcome) (h : List Event)
    → Ok r ≡ end_reply c t e → h ≡ (after_end c t e).events → r.outcome ≡ o → h ≡ End t o ∷ c.events
end_follows c t o r None h is after same = absurd cc
end_follows c t o r (Some q) h is after same =
    let receipt : Receipt = record { place = length c.events; txn = t; outcome = q } in
    let one : r ≡ receipt = cc in
    after ∙ ap (λ (x : Outcome). End t x ∷ c.events) (sym (ap (λ (x : Receipt). x.outcome) one) ∙ same)

end_is : (c : Core) (t : ℕ) (o : Outcome) → CanEnd c.procs c.events t o → end_of c t ≡ Some o
unfolding next_at
end_is c t o can = ap over_in ((ends_allowed c.procs c.events t o).1 can)

pub end_else : (c : Core) (t : ℕ) (o : Outcome) (r : Receipt) → Ok r ≡ end_reply c t (end_of c t) → (r.outcome ≡ o → ⊥) → CanEnd c.procs c.events t o → ⊥
end_else c t o r is not can =
    let receipt : Receipt = record { place = length c.events; txn = t; outcome = o } in
    let one : Ok r ≡ end_reply c t (Some o) = is ∙ ap (end_reply c t) (end_is c t o can) in
    let same : r ≡ receipt = cc in
    not (ap (λ (x : Receipt). x.outcome) same)

pub end_never : (c : Core) (t : ℕ) (o : Outcome) (x : NotOver) → Err x ≡ end_reply c t (end_of c t) → CanEnd c.procs c.events t o → ⊥
end_never c t o x is can = (let one : Err x ≡ end_reply c t (Some o) = is ∙ ap (end_reply c t) (end_is c t o can) in cc)

-- ---- what stays the same

pub ask_further : (c : Core) (a : Asked) → IsFurther c (after_ask c a)
ask_further c (reply.Request r) = refl
ask_further c reply.Undoing = refl
ask_further c reply.Over = refl
ask_further c (reply.Stuck n) = refl
ask_further c (reply.Waits n) = refl
ask_further c reply.Running = refl
ask_further c reply.Unknown = refl

pub undo_further : (c : Core) (a : Asked) → IsFurther c (after_undo c a)
undo_further c (reply.Request r) = refl
undo_further c reply.Undoing = refl
undo_further c reply.Over = refl
undo_further c (reply.Stuck n) = refl
undo_further c (reply.Waits n) = refl
undo_further c reply.Running = refl
undo_further c reply.Unknown = refl

-- where nothing is given up, an answer leaves that so
pub answer_further : (c new : Core) (r : Asking) (said : Said) (result : Result Unit Stranger) → c.given_up ≡ []
    → OnOk result (new ≡ after_answer c r said) → OnErr result (new ≡ c) → IsFurther c new
answer_further c new r said (Ok x) none ok err = rw ok (
    let h : List Event = Answer r.txn r.number said ∷ c.events in
    let none_yet : others r.number c.given_up ≡ c.given_up = ap (others r.number) none ∙ sym none in
    ap (λ (ns : List ℕ). let d : Core = record c { events = h; given_up = ns } in d) none_yet)
answer_further c new r said (Err s) none ok err = rw err refl

pub end_further : (c : Core) (t : ℕ) (o : Option Outcome) → IsFurther c (after_end c t o)
end_further c t None = refl
end_further c t (Some o) = refl

-- ---- admissions

pub none_there : (c : Core) (t : ℕ) (call : Call) → slice_get c.procs call.proc ≡ None → CanAdmit c.procs c.events t call → ⊥
none_there c t call none can = none_some _ can.q none can.loaded

pub other_count : (c : Core) (t : ℕ) (call : Call) → (q : Checked) × (slice_get c.procs call.proc ≡ Some q)
    × (length call.args ≢ q.decl.args) → CanAdmit c.procs c.events t call → ⊥
other_count c t call w can =
    let same : can.q ≡ w.0 = some_same can.q w.0 (sym can.loaded ∙ w.1) in
    w.2 (can.takes.count ∙ ap (λ (q : Checked). q.decl.args) same)

pub in_its_way : (c : Core) (t : ℕ) (call : Call) (r : Record) (u : ℕ)
    → in_the_way (held (decls c.procs) c.events) (locks_of (decls c.procs) call) r u ≡ true
    → CanAdmit c.procs c.events t call → ⊥
in_its_way c t call r u stands can = (let bad : true ≡ false = sym stands ∙ can.free r u in cc)

pub other_serial : (c : Core) (t serials : ℕ) (call : Call) → serials ≡ admitted c.events → (serials + 1 ≡ t → ⊥) → CanAdmit c.procs c.events t call → ⊥
other_serial c t serials call same other can = (let next = can.next in other (omega (arith, same, next)))

-- ---- places

tail_same : (x y : Event) (xs ys : List Event) → x ∷ xs ≡ y ∷ ys → xs ≡ ys
tail_same x y xs ys e = cc

pub same_rest : (xs ys a b : List Event) → xs ++ a ≡ ys ++ b → length a ≡ length b → a ≡ b
same_rest [] [] a b e f = e
same_rest [] (y ∷ ys) a b e f = absurd (let g : length a ≡ length (y ∷ (ys ++ b)) = ap length e in omega (arith, g, f, length-append ys b))
same_rest (x ∷ xs) [] a b e f = absurd (let g : length (x ∷ (xs ++ a)) ≡ length b = ap length e in omega (arith, g, f, length-append xs a))
same_rest (x ∷ xs) (y ∷ ys) a b e f = same_rest xs ys a b (tail_same x y (xs ++ a) (ys ++ b) e) f

-- what stands behind so many events has just these before it
pub rest_is : (whole h : List Event) (k : ℕ) (e : Event) → Begins h whole → length h ≡ k → (at : StandsAt whole k e) → at.earlier ≡ h
rest_is whole h k e begins count at =
    let one : (at.later ++ e ∷ []) ++ at.earlier ≡ begins.later ++ h = append_assoc at.later (e ∷ []) at.earlier ∙ (sym at.is ∙ begins.is) in
    same_rest (at.later ++ e ∷ []) begins.later at.earlier h one (at.count ∙ sym count)

pub begins_more : (whole h : List Event) (k : ℕ) (e : Event) → Begins h whole → length h ≡ k → StandsAt whole k e → Begins (e ∷ h) whole
begins_more whole h k e begins count at = record {
  later = at.later;
  is = at.is
      ∙ ap (λ (x : List Event). at.later ++ e ∷ x) (rest_is whole h k e begins count at);
}

pub begins_none : (whole : List Event) → Begins [] whole
begins_none whole = record { later = whole; is = sym (append-nil whole) }

pub begins_all : (whole h : List Event) → Begins h whole → length h ≡ length whole → h ≡ whole
begins_all whole h begins count = same_rest begins.later [] h whole (sym begins.is) count

pub first_illegal : (ps : List Checked) (whole h : List Event) (k : ℕ) (e : Event) → Begins h whole → length h ≡ k
    → StandsAt whole k e → Legal ps h → (Allowed ps h e → ⊥) → IsFirstIllegal ps whole k
first_illegal ps whole h k e begins count at legal illegal =
    let same = rest_is whole h k e begins count at in
    record {
      e = e;
      stands = at;
      before = subst (Legal ps) (sym same) legal;
      illegal = λ allowed. illegal (subst (λ (x : List Event). Allowed ps x e) same allowed);
    }
