-- What is handed out goes on behind what was.
use Rattle.std.proofs.Common.{◌≡◌, ℕ, Bool, true, false, List, [], ◌∷◌, ◌++◌, drop, length, reverse, Option, Some, None, Result, Ok, Err, OnOk, refl, sym, ◌∙◌, ap, subst}
use Rattle.tc_log.specs.declared.event.Event.{Event}
use Rattle.tc_core.specs.Core.{Core, loaded_in}
use Rattle.log_file.specs.declared.header.Header.{Header}
use Rattle.log_file.specs.Bytes.{Rows, of_session}
use Rattle.log_file.specs.Reading.{IsBehind, begins_anew}
use Rattle.procedure_digest.specs.Header.{header_of}
use Rattle.engine_log.specs.Handing.{base_by, base_of, AreFrames, HasNoRecords, HasHandedOut, Nothing, Begun, Fits, IsFor, header_by, GoesOn, IsOneMore}
use Rattle.engine_log.specs.declared.ahead.EngineLog.{EngineLog}

pub on_ok : {T E A B : Type 0} (r : Result T E) → (A → B) → OnOk r A → OnOk r B
on_ok (Ok x) f a = f a
on_ok (Err e) f a = tt

-- what stands behind a base may go on
behind_more : (base : Option Rows) (before more : List Event) → IsBehind base before → IsBehind base (before ++ more)
behind_more None before more behind = tt
behind_more (Some base) [] more behind = absurd (let bad : false ≡ true = behind in cc)
behind_more (Some base) (e ∷ before) more behind = behind

no_records : (anew : Bool) → HasNoRecords (base_by anew)
no_records false = tt
no_records true = refl

behind_base : (events : List Event) (anew : Bool) → begins_anew events ≡ anew → IsBehind (base_by anew) events
behind_base events false is = tt
behind_base events true is = is

some_none : (h : Header) → None ≡ Some h → ⊥
some_none h same = cc

one_header : (a b : Header) → Some a ≡ Some b → a ≡ b
one_header a b same = cc

-- behind a file that is begun
pub goes_on : (h : Header) (l : EngineLog) (c : Core) (bytes : List ℕ) (new : EngineLog) → l.header ≡ Some h → Fits h l c
    → new.header ≡ l.header → new.session ≡ l.session → IsOneMore l c bytes new → GoesOn l c bytes new
goes_on h l c bytes new is fits same session one = record {
  own = subst (λ (o : Option Header). IsFor o l c) (sym is) fits;
  header = same ∙ (is ∙ ap (λ (o : Option Header). Some (header_by o l.session c)) (sym is));
  session = session;
  handed = handed;
  noted = one.noted;
  nothing = λ other here. one.nothing;
}
  where
    handed : (file : List ℕ) (before : List Event) → HasHandedOut l file before
        → HasHandedOut new (file ++ bytes) (before ++ drop (length before) (reverse c.events))
    handed file before (Nothing none empty nothing) = absurd (some_none h (sym none ∙ is))
    handed file before (Begun other begun it) =
        Begun other (same ∙ begun)
        (record {
          base = it.base;
          none = it.none;
          behind = behind_more it.base before (drop (length before) (reverse c.events)) it.behind;
          frames = one.handed other it.base file before it.frames;
        })

-- a file is begun
pub begins : (l file new : EngineLog) (c : Core) (front bytes all : List ℕ) → l.header ≡ None
    → file.header ≡ Some (of_session (header_of (loaded_in c)) l.session) → file.session ≡ l.session
    → AreFrames (of_session (header_of (loaded_in c)) l.session) (base_of (reverse c.events)) file front []
    → new.header ≡ file.header → new.session ≡ file.session → IsOneMore file c bytes new → all ≡ front ++ bytes → GoesOn l c all new
begins l file new c front bytes all none header session frames same kept one is = record {
  own = subst (λ (o : Option Header). IsFor o l c) (sym none) tt;
  header = same ∙ (header ∙ ap (λ (o : Option Header). Some (header_by o l.session c)) (sym none));
  session = kept ∙ session;
  handed = handed;
  noted = one.noted;
  nothing = λ other here. absurd (some_none other (sym none ∙ here));
}
  where
    h : Header
    h = of_session (header_of (loaded_in c)) l.session

    events : List Event
    events = reverse c.events

    handed : (was : List ℕ) (before : List Event) → HasHandedOut l was before → HasHandedOut new (was ++ all) (before ++ drop (length before) events)
    handed was before (Begun other begun it) = absurd (some_none other (sym none ∙ begun))
    handed was before (Nothing unbegun empty nothing) =
        let whole : HasHandedOut new (front ++ bytes) events =
        Begun h (same ∙ header)
        (record {
          base = base_of events;
          none = no_records (begins_anew events);
          behind = behind_base events (begins_anew events) refl;
          frames = one.handed h (base_of events) front [] frames;
        }) in
        subst (λ (f : List ℕ). HasHandedOut new (f ++ all) (before ++ drop (length before) events)) (sym empty)
        (subst (λ (e : List Event). HasHandedOut new all (e ++ drop (length e) events)) (sym nothing)
        (subst (λ (f : List ℕ). HasHandedOut new f events) (sym is) whole))
