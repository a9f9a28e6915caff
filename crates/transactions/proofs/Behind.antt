-- What a transaction waits for was sent behind its admission.
use Rattle.std.proofs.Common.{◌≡◌, ◌⊎◌, ℕ, ◌<◌, Bool, true, false, List, [], ◌∷◌, ◌++◌, length, Option}
use Rattle.std.proofs.Common.{Some, None, arith, refl, sym, ◌∙◌, ap, inl, inr, length-append}
use Rattle.std.proofs.lemmas.Bool.{cases_eq}
use Rattle.access_slots.specs.declared.op.Op.{Op}
use Rattle.tc_log.specs.declared.event.Event.{Event}
use Rattle.tc_log.specs.declared.event.Event.TheVariants.{Admit, Ask, Answer, Undo, End}
use Rattle.history.specs.Calls.{txn_of}
use Rattle.history.specs.Places.{StandsAt}
use Rattle.transactions.specs.declared.Sent.{Sent}
use Rattle.transactions.specs.Sending.{SendsOperation, IsSentBehind}
use Rattle.transactions.specs.Standing.{Standing, standing, moved, sent_as}
use Rattle.transactions.proofs.StandingLemmas.{some_same, none_some, standing-same, standing-other}

-- what stands behind a place stands there when one more event follows
later_still : (e : Event) (h : List Event) (place t n : ℕ) (o : Op) → IsSentBehind h place t n o → IsSentBehind (e ∷ h) place t n o
later_still e h place t n o b = record {
  at = b.at;
  behind = b.behind;
  event = b.event;
  stands = record { later = e ∷ b.stands.later; earlier = b.stands.earlier; is = ap (λ (x : List Event). e ∷ x) b.stands.is; count = b.stands.count };
  sends = b.sends;
}

-- the newest event sends it
sent_now : (e : Event) (h : List Event) (place t n : ℕ) (o : Op) → place < length h → SendsOperation e t n o → IsSentBehind (e ∷ h) place t n o
sent_now e h place t n o before sends = record {
  at = length h;
  behind = before;
  event = e;
  stands = record { later = []; earlier = h; is = refl; count = refl };
  sends = sends;
}

sent_is : (m : ℕ) (q : Op) (b : Bool) (r : Sent) → sent_as m q b ≡ Some r → (m ≡ r.number) × (q ≡ r.op)
sent_is m q b r e = (let it = some_same _ r e in (ap (λ (x : Sent). x.number) it, ap (λ (x : Sent). x.op) it))

-- what the event makes of a transaction that then waits, it sends, or makes nothing of it
sends_it : (e : Event) (was : Option Standing) (t : ℕ) (s : Standing) (r : Sent) → txn_of e ≡ t → moved e was ≡ Some s
    → s.sent ≡ Some r → SendsOperation e t r.number r.op ⊎ (was ≡ Some s)
sends_it (Admit u p args) was t s r own is waits = absurd (none_some _ r (ap (λ (x : Standing). x.sent) (sym (some_same _ s is))) waits)
sends_it (Ask u m q) None t s r own is waits = absurd (let bad : None ≡ Some s = is in cc)
sends_it (Ask u m q) (Some v) t s r own is waits =
    (let it = sent_is m q false r (ap (λ (x : Standing). x.sent) (some_same _ s is) ∙ waits) in inl (own, it.0, it.1))
sends_it (Answer u m said) None t s r own is waits = absurd (let bad : None ≡ Some s = is in cc)
sends_it (Answer u m said) (Some v) t s r own is waits = absurd (none_some _ r (ap (λ (x : Standing). x.sent) (sym (some_same _ s is))) waits)
sends_it (Undo u m q) None t s r own is waits = absurd (let bad : None ≡ Some s = is in cc)
sends_it (Undo u m q) (Some v) t s r own is waits =
    (let it = sent_is m q true r (ap (λ (x : Standing). x.sent) (some_same _ s is) ∙ waits) in inl (own, it.0, it.1))
sends_it (End u outcome) was t s r own is waits = absurd (let bad : None ≡ Some s = is in cc)
sends_it _ was t s r own is waits = inr is

behind : (later earlier : List Event) (t p : ℕ) (args : List ℕ) (s : Standing) (r : Sent)
    → standing (later ++ Admit t p args ∷ earlier) t ≡ Some s → s.sent ≡ Some r
    → IsSentBehind (later ++ Admit t p args ∷ earlier) (length earlier) t r.number r.op
behind [] earlier t p args s r is waits =
    absurd (none_some _ r (ap (λ (x : Standing). x.sent)
    (sym (some_same _ s (sym (standing-same (Admit t p args) earlier t refl) ∙ is)))) waits)
behind (e ∷ later) earlier t p args s r is waits =
    let rest = later ++ Admit t p args ∷ earlier in
    elim (cases_eq (txn_of e) t) [
      | inl same ↦
          let moved_so : moved e (standing rest t) ≡ Some s = sym (standing-same e rest t same) ∙ is in
          elim (sends_it e (standing rest t) t s r same moved_so waits) [
            | inl sends ↦ sent_now e rest (length earlier) t r.number r.op (omega (arith, length-append later (Admit t p args ∷ earlier))) sends
            | inr was ↦ later_still e rest (length earlier) t r.number r.op (behind later earlier t p args s r was waits)
          ]
      | inr other ↦ later_still e rest (length earlier) t r.number r.op (behind later earlier t p args s r (sym (standing-other e rest t other) ∙ is) waits)
    ]

pub sent_behind : (h : List Event) (place t p : ℕ) (args : List ℕ) (s : Standing) (r : Sent)
    → StandsAt h place (Admit t p args) → standing h t ≡ Some s → s.sent ≡ Some r
    → IsSentBehind h place t r.number r.op
sent_behind h place t p args s r at is waits =
    let here : standing (at.later ++ Admit t p args ∷ at.earlier) t ≡ Some s = ap (λ (x : List Event). standing x t) (sym at.is) ∙ is in
    rw (at.is, ← at.count) (behind at.later at.earlier t p args s r here waits)
