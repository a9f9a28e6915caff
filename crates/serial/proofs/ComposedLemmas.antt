-- A long log beside one that begins anew: calls run one after another over what those before the beginning left.
use Rattle.std.proofs.Common.{◌≡◌, ℕ, List, [], ◌∷◌, ◌++◌, Option, refl, sym, ap₂, subst}
use Rattle.verifier.specs.Checked.{Checked}
use Rattle.tc_log.specs.declared.event.Event.{Event}
use Rattle.tc_log.specs.declared.event.Event.TheVariants.{End}
use Rattle.history.specs.Calls.{Call, open_call}
use Rattle.history.specs.Anew.{anew}
use Rattle.transactions.specs.Legal.{Legal}
use Rattle.transactions.specs.Alike.{IsAtRest}
use Rattle.transactions.proofs.Alike.{anew_alike}
use Rattle.serial.specs.Values.{Table}
use Rattle.serial.specs.Serial.{run_open, left_by, serial_from, EndsAs, EndsSoFrom, EndsAsSerialFrom}

anew_serial : (ps : List Checked) (base : Table) (h : List Event) → serial_from ps base (anew h) ≡ base
anew_serial ps base [] = refl
anew_serial ps base (e ∷ h) = refl

module _ (ps : List Checked) (base : Table) (h : List Event) (legal : Legal ps h) (rest : IsAtRest h) where
  same_call : (later : List Event) (t : ℕ) → open_call (later ++ h) t ≡ open_call (later ++ anew h) t
  same_call later t = (anew_alike ps later h legal rest).calls t

  pub composed : (later : List Event) → serial_from ps base (later ++ h) ≡ serial_from ps (serial_from ps base h) (later ++ anew h)
  composed [] = sym (anew_serial ps (serial_from ps base h) h)
  composed (End t ends ∷ later) = ap₂ (λ (c : Option Call) (m : Table). left_by ends (run_open ps c m) m) (same_call later t) (composed later)
  composed (_ ∷ later) = composed later

  same_end : (later : List Event) (e : Event) → EndsSoFrom ps base (later ++ h) e → EndsSoFrom ps (serial_from ps base h) (later ++ anew h) e
  same_end later (End t ends) is =
      subst (λ (m : Table). EndsAs ends (run_open ps (open_call (later ++ anew h) t) m)) (composed later)
      (subst (λ (c : Option Call). EndsAs ends (run_open ps c (serial_from ps base (later ++ h)))) (same_call later t) is)
  same_end later _ is = tt

  long_end : (later : List Event) (e : Event) → EndsSoFrom ps (serial_from ps base h) (later ++ anew h) e → EndsSoFrom ps base (later ++ h) e
  long_end later (End t ends) is =
      subst (λ (m : Table). EndsAs ends (run_open ps (open_call (later ++ h) t) m)) (sym (composed later))
      (subst (λ (c : Option Call). EndsAs ends (run_open ps c (serial_from ps (serial_from ps base h) (later ++ anew h)))) (sym (same_call later t)) is)
  long_end later _ is = tt

  anew_ends : (k : List Event) → EndsAsSerialFrom ps (serial_from ps base h) (anew k)
  anew_ends [] = tt
  anew_ends (e ∷ k) = (tt, tt)

  -- what the long log says of the calls behind the beginning, the short one says
  pub short_ends : (later : List Event) → EndsAsSerialFrom ps base (later ++ h) → EndsAsSerialFrom ps (serial_from ps base h) (later ++ anew h)
  short_ends [] ends = anew_ends h
  short_ends (e ∷ later) ends = (same_end later e ends.0, short_ends later ends.1)

  -- and what both parts say, the long log says
  pub long_ends : (later : List Event) → EndsAsSerialFrom ps base h
      → EndsAsSerialFrom ps (serial_from ps base h) (later ++ anew h) → EndsAsSerialFrom ps base (later ++ h)
  long_ends [] before ends = before
  long_ends (e ∷ later) before ends = (long_end later e ends.0, long_ends later before ends.1)
