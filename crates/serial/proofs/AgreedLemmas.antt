-- Beside lists that stand beside a legal log with honest answers, an audit finds nothing.
use Rattle.std.proofs.Common.{◌≡◌, ◌⊎◌, ℕ, zero, suc, true, false, List, [], ◌∷◌, ◌++◌, Option, Some, None, arith, refl}
use Rattle.std.proofs.Common.{sym, ◌∙◌, ap, subst, inl, inr, append_assoc}
use Rattle.std.specs.Prelude.{slice_get, pred}
use Rattle.std.proofs.lemmas.Bool.{cases_eq}
use Rattle.access_slots.specs.declared.slot.Record.{Record}
use Rattle.access_slots.specs.declared.op.Op.{Op}
use Rattle.access_slots.specs.declared.op.Said.{Said}
use Rattle.access_slots.specs.declared.op.Said.TheVariants.{NoRoom}
use Rattle.access_slots.specs.Locks.{record_eq, target}
use Rattle.access_slots.proofs.Records.{eq_is}
use Rattle.tc_log.specs.declared.event.Event.{Event}
use Rattle.tc_log.specs.declared.event.Event.TheVariants.{Answer}
use Rattle.verifier.specs.Checked.{Checked}
use Rattle.history.specs.Flight.{Flight, open_op, given}
use Rattle.data_component.specs.Performed.{Performed, RecordValue, value_over, said_under}
use Rattle.data_component.specs.Sorted.{row_of}
use Rattle.data_component.specs.Store.{Store}
use Rattle.transactions.specs.Reached.{AllGood}
use Rattle.transactions.specs.Legal.{Legal}
use Rattle.transactions.proofs.StandingLemmas.{some_same, none_some}
use Rattle.transactions.proofs.Flights.{flight}
use Rattle.serial.specs.Values.{Table, told, said_freely}
use Rattle.history.specs.Redo.{is_done}
use Rattle.serial.specs.Serial.{done, now_from, HonestTo, IsHonestFrom, HonestFrom}
use Rattle.serial.specs.Lists.{logged, dc_of, writes_on}
use Rattle.serial.specs.Audit.{value_to, value_at, base_at, list_at, list_of, incarnation_of, StandsSo, StandsThere, IsFree, IsAgreed, IsBegunTogether, base_of}
use Rattle.serial.specs.Joining.Beside.{Beside}
use Rattle.serial.specs.Joining.Site.{StandsWhole}
use Rattle.serial.proofs.LockLemmas.{by_test}
use Rattle.serial.proofs.KeepLemmas.{answered_flight}
use Rattle.serial.proofs.ListLemmas.{under_other, under_same, value_over_writes, over_same, writes_none}
use Rattle.serial.proofs.NumberLemmas.{flight_logged, done_answer, done_once, once_under, done_logs}
use Rattle.serial.proofs.OrderLemmas.{list_now}
use Rattle.serial.proofs.AuditLemmas.{legal_tail, logged_stays, value_before, value_all, unwritten}

-- ---- answers

-- the answer is what the operations under lower numbers left, or want of room
abbrev Tells : Table → List Event → ℕ → Op → Said → Type 0
Tells base h n o said = (said ≡ told (value_to base h (pred n)) o) ⊎ (said ≡ NoRoom)

tells_one : (ps : List Checked) (base : Table) (later h : List Event) (t m : ℕ) (s : Said) (n : ℕ) (o : Op)
    (said : Said) → AllGood ps → Legal ps (later ++ Answer t m s ∷ h) → HonestTo (open_op h m) s (now_from base h)
    → logged (later ++ Answer t m s ∷ h) n ≡ Some o → said_under (done (Answer t m s ∷ h)) n ≡ Some said
    → (said_under (done h) n ≡ Some said → Tells base (later ++ Answer t m s ∷ h) n o said)
    → Tells base (later ++ Answer t m s ∷ h) n o said
tells_one ps base later h t m s n o said good legal honest logs under before =
    let H = later ++ Answer t m s ∷ h in
    let all = legal_tail ps later (Answer t m s ∷ h) legal in
    let f : Flight = flight t all.0.r.op in
    let flies : open_op h m ≡ Some f = answered_flight ps h t m s all.1 all.0 in
    let under' : said_under ((m, f.op, s) ∷ done h) n ≡ Some said =
    subst (λ (x : List Performed). said_under x n ≡ Some said) (done_answer h t m f s flies) under in
    elim (cases_eq m n) [
      | inl same ↦
          let one : s ≡ said = some_same s said (sym (under_same m n f.op s (done h) same) ∙ under') in
          let logged_so : logged H m ≡ Some f.op = logged_stays ps later (Answer t m s ∷ h) m f.op legal (flight_logged h m f flies) in
          let op : f.op ≡ o = some_same f.op o (sym logged_so ∙ (ap (logged H) same ∙ logs)) in
          let value : told (value_to base H (pred m)) f.op ≡ told (now_from base h) f.op =
          ap (λ (v : RecordValue). said_freely v f.op) (value_before ps base later h t m s f good legal flies) in
          let honest' : HonestTo (Some f) s (now_from base h) = subst (λ (x : Option Flight). HonestTo x s (now_from base h)) flies honest in
          let tells : Tells base H m f.op s = elim honest' [ inl is ↦ inl (is ∙ sym value) | inr is ↦ inr is ] in
          subst (λ (k : ℕ). Tells base H k o said) same (subst (λ (q : Op). Tells base H m q said) op (subst (λ (u : Said). Tells base H m f.op u) one tells))
      | inr other ↦ before (sym (under_other m n f.op s (done h) other) ∙ under')
    ]

tells_event : (ps : List Checked) (base : Table) (later h : List Event) (e : Event) (n : ℕ) (o : Op) (said : Said)
    → AllGood ps → Legal ps (later ++ e ∷ h) → IsHonestFrom base h e
    → logged (later ++ e ∷ h) n ≡ Some o → said_under (done (e ∷ h)) n ≡ Some said
    → (said_under (done h) n ≡ Some said → Tells base (later ++ e ∷ h) n o said) → Tells base (later ++ e ∷ h) n o said
tells_event ps base later h (Answer t m s) n o said good legal honest logs under before =
    tells_one ps base later h t m s n o said good legal honest logs under before
tells_event ps base later h _ n o said good legal honest logs under before = before under

-- where answers are honest, each is what the operations under lower numbers left
tells_all : (ps : List Checked) (base : Table) (later h : List Event) (n : ℕ) (o : Op) (said : Said) → AllGood ps
    → Legal ps (later ++ h) → HonestFrom base h → logged (later ++ h) n ≡ Some o → said_under (done h) n ≡ Some said
    → Tells base (later ++ h) n o said
tells_all ps base later [] n o said good legal honest logs under = absurd (none_some _ said refl under)
tells_all ps base later (e ∷ h) n o said good legal honest logs under =
    let same : (later ++ e ∷ []) ++ h ≡ later ++ e ∷ h = append_assoc later (e ∷ []) h in
    tells_event ps base later h e n o said good legal honest.0 logs under (λ before.
    subst (λ (x : List Event). Tells base x n o said) same
    (tells_all ps base (later ++ e ∷ []) h n o said good (subst (Legal ps) (sym same) legal) honest.1
    (subst (λ (x : List Event). logged x n ≡ Some o) (sym same) logs) before))

-- ---- records

-- no operation on the record, no write of it
no_writes : (r : Record) (list : List Performed) → ((k : ℕ) (e : Performed) → slice_get list k ≡ Some e
    → record_eq (target e.1) r ≡ true → ⊥) → writes_on r list ≡ []
no_writes r [] none = refl
no_writes r (x ∷ list) none = writes_none r x list (λ same. absurd (none zero x refl same)) ∙ no_writes r list (λ k e is. none (suc k) e is)

-- ---- the audit

module _ (ps : List Checked) (h : List Event) (dcs : List Store) (good : AllGood ps) (legal : Legal ps h) (honest : HonestFrom (base_of dcs) h) where
  -- a data component's list stands beside the log, and where it never restarted, all that was answered is there
  abbrev pub Stands : Type 0
  Stands = (d : ℕ) (s : Store) → slice_get dcs d ≡ Some s
      → Beside (base_of dcs) (logged h) (open_op h) (done h) d s.list
      × (s.incarnation ≡ 0 → StandsWhole (logged h) (done h) d s.list)

  -- what was answered was said by a data component that is there
  abbrev pub WasThere : Type 0
  WasThere = (n : ℕ) (o : Op) (said : Said) → logged h n ≡ Some o → said_under (done h) n ≡ Some said → (s : Store) × (slice_get dcs (dc_of o) ≡ Some s)

  stands_there : Stands → (n : ℕ) (o : Op) (said : Said) (s : Store) → slice_get dcs (dc_of o) ≡ Some s
      → logged h n ≡ Some o → said_under (done h) n ≡ Some said → StandsThere dcs n o said
  stands_there stands n o said s at logs was =
      subst (λ (x : Option Store). StandsSo (said_under (list_of x) n) said (incarnation_of x)) (sym at) (by (said_under s.list n) refl)
    where
      it : Beside (base_of dcs) (logged h) (open_op h) (done h) (dc_of o) s.list × (s.incarnation ≡ 0 → StandsWhole (logged h) (done h) (dc_of o) s.list)
      it = stands (dc_of o) s at

      by : (u : Option Said) → said_under s.list n ≡ u → StandsSo u said s.incarnation
      by (Some listed) is = it.0.agrees n o listed said logs refl is was
      by None is = (
        by_test (is_done said) (is_done said ≡ false) (λ did. absurd (none_some _ said is (it.0.answers n o said logs refl was did))) (λ didnt. didnt),
        elim (cases_eq s.incarnation 0) [
          | inl never ↦ absurd (none_some _ said is (it.1 never n o said logs refl was))
          | inr other ↦ omega (arith, other)
        ],
      )

  -- only the record's own row counts
  over_value : (r : Record) → value_at dcs r ≡ value_over (base_of dcs) (list_at dcs r.dc) r
  over_value r = over_same (row_of (base_at dcs r.dc)) (base_of dcs) (list_at dcs r.dc) r refl

  kept_by : Stands → WasThere → (r : Record) → IsFree ps h r → (u : Option Store) → slice_get dcs r.dc ≡ u
      → value_over (base_of dcs) (list_at dcs r.dc) r ≡ value_to (base_of dcs) h (given h) r
  kept_by stands there r free (Some s) at =
      let un = unwritten ps h r free in
      ap (λ (x : Option Store). value_over (base_of dcs) (list_of x) r) at
      ∙ (list_now ps (base_of dcs) h r.dc s.list good legal (stands r.dc s at).0 r refl un ∙ sym (value_all ps (base_of dcs) h r good legal))
  kept_by stands there r free None at =
      let none = no_writes r (done h) (λ k e is same.
      let s = there e.0 e.1 e.2 (done_logs ps h legal k e is) (once_under (done h) (done_once ps h legal) k e is) in
      none_some _ s.0 (ap (λ (x : Record). slice_get dcs x.dc) (eq_is (target e.1) r same) ∙ at) s.1) in
      ap (λ (x : Option Store). value_over (base_of dcs) (list_of x) r) at
      ∙ sym (value_all ps (base_of dcs) h r good legal ∙ (value_over_writes (base_of dcs) (done h) r
      ∙ ap (λ (x : List Performed). value_over (base_of dcs) x r) none))

  pub agreed : Stands → WasThere → IsBegunTogether h dcs → IsAgreed ps h dcs
  agreed stands there together =
      record {
        together = together;
        asked = λ d s k e at is. (let x = (stands d s at).0.entries k e is in record { logs = x.0; dc = x.1 });
        matched = λ n o said logs was.
            let s = there n o said logs was in
            record { stands = stands_there stands n o said s.0 s.1 logs was; tells = tells_all ps (base_of dcs) [] h n o said good legal honest logs was };
        kept = λ r free. over_value r ∙ kept_by stands there r free (slice_get dcs r.dc) refl;
      }
