-- What is done for data components that are redone.
use Rattle.std.proofs.Common.{◌≡◌, ◌≢◌, ℕ, true, zero, suc, ◌-◌, ◌<◌, List, [], ◌∷◌, length, Option, Some, None, refl, sym, ◌∙◌, ap, subst, inl, inr, arith}
use Rattle.std.specs.Prelude.{slice_get, slice_set}
use Rattle.std.proofs.lemmas.Bool.{cases_eq}
use Rattle.std.proofs.lemmas.List.{length-set}
use Rattle.access_slots.specs.declared.op.Reply.{Reply}
use Rattle.access_slots.specs.declared.op.Wire.{Wire}
use Rattle.tc_log.specs.declared.event.Event.{Event}
use Rattle.history.specs.Flight.{given}
use Rattle.history.specs.Redo.{to_redo, IsToRedo}
use Rattle.history.specs.declared.Answered.{Answered}
use Rattle.access_slots.specs.Locks.{target}
use Rattle.data_component.specs.Store.{Store, performed}
use Rattle.transactions.specs.declared.Redoing.{Redoing}
use Rattle.transactions.specs.declared.Site.{Site}
use Rattle.transactions.specs.InFlight.{site_at, site_by}
use Rattle.transactions.specs.Legal.{Legal}
use Rattle.transactions.specs.Reached.{AllGood}
use Rattle.transactions.proofs.Restarts.{to_redo_is, answered_given}
use Rattle.serial.proofs.SitesLemmas.{set_same, set_other}
use Rattle.tc_core.specs.Core.{Core}
use Rattle.tc_core.specs.Redo.{with_site, redo_wire, redo_reply, redo_at, redo_by, sends_again, after_redo, up_again, IsRedone, redone_to, redone_at, after_redone}
use Rattle.tc_core.specs.declared.state.Redo.{Redo}
use Rattle.tc_core.specs.declared.state.Redo.TheVariants as redo
use Rattle.tc_world.specs.Lives.{Becomes}
use Rattle.coming_back.specs.Serving.{IsRedoFor, AreRedone}
use Rattle.coming_back.specs.Coming.{at_rest}
use Rattle.coming_back.specs.Joining.LivingOn.{LivesOn}
use Rattle.coming_back.specs.Joining.Performing.{Performs, There, Nowhere}
use Rattle.coming_back.specs.Joining.Redoing.{Redoes, RedoesAt, numbers_above, left_to_redo}
use Rattle.coming_back.proofs.SentLemmas.{sent_at}
use Rattle.coming_back.proofs.ServingLemmas.{all_same, all_then, all_once}
use Rattle.coming_back.proofs.LivedLemmas.{answered_done, next_lived, resent_lived, redone_lived}

-- ---- one after another

pub redoes_same : (c : Core) (ds : List Store) → Redoes c ds c ds
redoes_same c ds = record { core = refl; count = refl; incarnations = λ d. refl; redone = all_same IsRedoFor ds; lived = λ start l. l }

pub redoes_then : (c d e : Core) (ds es fs : List Store) → Redoes c ds d es → Redoes d es e fs → Redoes c ds e fs
redoes_then c d e ds es fs a b = record {
  core = b.core ∙ ap (λ (x : Core). let it : Core = record x { sites = e.sites } in it) a.core;
  count = b.count ∙ a.count;
  incarnations = λ n. b.incarnations n ∙ a.incarnations n;
  redone = all_then IsRedoFor ds es fs a.redone b.redone;
  lived = λ start l. b.lived start (a.lived start l);
}

pub redoes_at_same : (n : ℕ) (c : Core) (ds : List Store) → RedoesAt n c ds c ds
redoes_at_same n c ds = record { redoes = redoes_same c ds; others = λ e other. refl; stores = λ e other. refl }

pub redoes_at_then : (n : ℕ) (c d e : Core) (ds es fs : List Store) → RedoesAt n c ds d es → RedoesAt n d es e fs → RedoesAt n c ds e fs
redoes_at_then n c d e ds es fs a b = record {
  redoes = redoes_then c d e ds es fs a.redoes b.redoes;
  others = λ m other. b.others m other ∙ a.others m other;
  stores = λ m other. b.stores m other ∙ a.stores m other;
}

-- ---- what is known of a data component changes

pub site_here : (sites : List Site) (n : ℕ) (s t : Site) → slice_get sites n ≡ Some s → site_at (slice_set sites n t) n ≡ t
site_here sites n s t at = ap site_by (set_same sites n s t at)

site_there : (sites : List Site) (n m : ℕ) (t : Site) → m ≢ n → site_at (slice_set sites n t) m ≡ site_at sites m
site_there sites n m t other = ap site_by (set_other sites n m t (λ same. other (sym same)))

-- the other data components stay as they are
abbrev AreStill : ℕ → List Store → List Store → Type 0
AreStill n ds es = (m : ℕ) → m ≢ n → slice_get es m ≡ slice_get ds m

resited : (n : ℕ) (c : Core) (ds es : List Store) (s t : Site) → slice_get c.sites n ≡ Some s
    → t.incarnation ≡ s.incarnation → AreRedone ds es → AreStill n ds es
    → LivesOn (at_rest c ds) (at_rest (with_site c n t) es) → RedoesAt n c ds (with_site c n t) es
resited n c ds es s t at same redone stores lived = record {
  redoes = record {
    core = refl;
    count = length-set c.sites n t;
    incarnations = λ m. elim (cases_eq m n) [
      | inl here ↦
          subst (λ (k : ℕ). (site_at (slice_set c.sites n t) k).incarnation ≡ (site_at c.sites k).incarnation) (sym here)
          (ap (λ (x : Site). x.incarnation) (site_here c.sites n s t at) ∙ (same ∙ ap (λ (x : Option Site). (site_by x).incarnation) (sym at)))
      | inr other ↦ ap (λ (x : Site). x.incarnation) (site_there c.sites n m t other)
    ];
    redone = redone;
    lived = lived;
  };
  others = λ m other. site_there c.sites n m t other;
  stores = stores;
}

redone_here : (n : ℕ) (c : Core) (ds es : List Store) → AreRedone ds es → AreStill n ds es → LivesOn (at_rest c ds) (at_rest c es) → RedoesAt n c ds c es
redone_here n c ds es redone stores lived = record {
  redoes = record { core = refl; count = refl; incarnations = λ m. refl; redone = redone; lived = lived };
  others = λ m other. refl;
  stores = stores;
}

-- ---- `redo_next`

abbrev pub NoSend : Redo → Type 0
NoSend (redo.Send x) = ⊥
NoSend redo.Finished = Unit {0}
NoSend redo.NotDown = Unit {0}
NoSend redo.NoDc = Unit {0}

up_again_redoes : (n : ℕ) (c : Core) (ds : List Store) (o : Option Site) → slice_get c.sites n ≡ o → (LivesOn (at_rest c ds) (at_rest (up_again c n o) ds))
    → RedoesAt n c ds (up_again c n o) ds
up_again_redoes n c ds None at lived = redoes_at_same n c ds
up_again_redoes n c ds (Some s) at lived = resited n c ds ds s (record s { redo = None }) at refl (all_same IsRedoFor ds) (λ m other. refl) lived

pub next_redoes : (n : ℕ) (c : Core) (ds : List Store) (a : Redo) → a ≡ redo_reply c n → Legal c.procs c.events
    → AllGood c.procs → RedoesAt n c ds (after_redo c n a) ds
next_redoes n c ds (redo.Send x) is legal good = redoes_at_same n c ds
next_redoes n c ds redo.Finished is legal good = up_again_redoes n c ds (slice_get c.sites n) refl (next_lived n c ds redo.Finished is legal good)
next_redoes n c ds redo.NotDown is legal good = redoes_at_same n c ds
next_redoes n c ds redo.NoDc is legal good = redoes_at_same n c ds

abbrev IsUpAt : Core → ℕ → Type 0
IsUpAt c n = (site_at c.sites n).redo ≡ None

up_behind : (c : Core) (n incarnation mark : ℕ) (s : Site) (a : Option Answered) → slice_get c.sites n ≡ Some s
    → NoSend (sends_again incarnation mark a) → IsUpAt (after_redo c n (sends_again incarnation mark a)) n
up_behind c n incarnation mark s None is no_send = rw is (ap (λ (x : Site). x.redo) (site_here c.sites n s (record s { redo = None }) is))
up_behind c n incarnation mark s (Some a) is no_send = absurd no_send

up_site : (c : Core) (n : ℕ) (s : Site) (o : Option Redoing) → s.redo ≡ o → slice_get c.sites n ≡ Some s
    → NoSend (redo_by c n s.incarnation o) → IsUpAt (after_redo c n (redo_by c n s.incarnation o)) n
up_site c n s None up is no_send = ap (λ (x : Option Site). (site_by x).redo) is ∙ up
up_site c n s (Some r) down is no_send = up_behind c n s.incarnation r.mark s (to_redo c.events n r.redone) is no_send

up_at : (c : Core) (n : ℕ) (o : Option Site) → slice_get c.sites n ≡ o → NoSend (redo_at c n o) → IsUpAt (after_redo c n (redo_at c n o)) n
up_at c n None is no_send = ap (λ (x : Option Site). (site_by x).redo) is
up_at c n (Some s) is no_send = up_site c n s s.redo refl is no_send

-- where nothing is to be redone, the data component is up
pub up_where_no_send : (c d : Core) (n : ℕ) (a : Redo) → a ≡ redo_reply c n → d ≡ after_redo c n a → NoSend a → (site_at d.sites n).redo ≡ None
up_where_no_send c d n a is after no_send = rw (after, is) (up_at c n (slice_get c.sites n) refl (subst NoSend is no_send))

no_dc_by : (c : Core) (n : ℕ) (s : Site) (o : Option Redoing) → redo_by c n s.incarnation o ≡ redo.NoDc → ⊥
no_dc_by c n s None is = cc
no_dc_by c n s (Some r) is = by (to_redo c.events n r.redone) is
  where
    by : (a : Option Answered) → sends_again s.incarnation r.mark a ≡ redo.NoDc → ⊥
    by None bad = cc
    by (Some a) bad = cc

pub there : {X : Type 0} (xs : List X) (n : ℕ) → n < length xs → (x : X) × (slice_get xs n ≡ Some x)
there [] n low = absurd (omega (arith, low))
there (x ∷ xs) zero low = (x, refl)
there (x ∷ xs) (suc n) low = there xs n (omega (arith, low))

-- a data component that is there is one that `redo_next` knows
pub never_unknown : (c : Core) (n : ℕ) (a : Redo) → n < length c.sites → a ≡ redo_reply c n → a ≡ redo.NoDc → ⊥
never_unknown c n a low is bad =
    let s = there c.sites n low in
    no_dc_by c n s.0 s.0.redo (sym (ap (redo_at c n) s.1) ∙ (sym is ∙ bad))

-- ---- `redone`

sent_behind : (incarnation mark : ℕ) (x : Wire) (a : Option Answered) → redo.Send x ≡ sends_again incarnation mark a → x.redo ≡ true
sent_behind incarnation mark x None is = absurd cc
sent_behind incarnation mark x (Some a) is = (let same : x ≡ redo_wire incarnation mark a = cc in ap (λ (y : Wire). y.redo) same)

sent_by : (c : Core) (n incarnation : ℕ) (x : Wire) (o : Option Redoing) → redo.Send x ≡ redo_by c n incarnation o → x.redo ≡ true
sent_by c n incarnation x None is = absurd cc
sent_by c n incarnation x (Some r) is = sent_behind incarnation r.mark x (to_redo c.events n r.redone) is

-- what is sent is a wire of a redo
sent_is_redo : (c : Core) (n : ℕ) (x : Wire) (o : Option Site) → redo.Send x ≡ redo_at c n o → x.redo ≡ true
sent_is_redo c n x None is = absurd cc
sent_is_redo c n x (Some s) is = sent_by c n s.incarnation x s.redo is

performs_redone : (ds es : List Store) (x : Wire) (y : Option Reply) → x.redo ≡ true → Performs ds x y es → AreRedone ds es
performs_redone ds es x y is (There it) = subst (AreRedone ds) (sym it.then_is) (all_once IsRedoFor ds x it.s (refl, is) it.at)
performs_redone ds es x y is (Nowhere past none same) = subst (AreRedone ds) (sym same) (all_same IsRedoFor ds)

performs_still : (n : ℕ) (c : Core) (x : Wire) (y : Option Reply) (ds es : List Store) → Legal c.procs c.events
    → redo.Send x ≡ redo_reply c n → Performs ds x y es → AreStill n ds es
performs_still n c x y ds es legal is (There it) m other =
    let dc = (sent_at c n x (slice_get c.sites n) legal refl is).dc in
    ap (λ (fs : List Store). slice_get fs m) it.then_is ∙ set_other ds (target x.op).dc m (performed it.s x) (λ same. other (sym same ∙ dc))
performs_still n c x y ds es legal is (Nowhere past none same) m other = ap (λ (fs : List Store). slice_get fs m) same

performs_lived : (n : ℕ) (c : Core) (x : Wire) (y : Option Reply) (ds es : List Store) → Legal c.procs c.events
    → AllGood c.procs → redo.Send x ≡ redo_reply c n → Performs ds x y es
    → LivesOn (at_rest c ds) (at_rest c es)
performs_lived n c x y ds es legal good is (There it) start l = resent_lived n c x y ds es legal good is it start l
performs_lived n c x y ds es legal good is (Nowhere past none same) start l = subst (λ (fs : List Store). Becomes start (at_rest c fs)) (sym same) l

-- what is redone is performed, and nothing is taken in
pub performed_redoes : (n : ℕ) (c : Core) (x : Wire) (y : Option Reply) (ds es : List Store) → Legal c.procs c.events
    → AllGood c.procs → redo.Send x ≡ redo_reply c n → Performs ds x y es
    → RedoesAt n c ds c es
performed_redoes n c x y ds es legal good is performs =
    redone_here n c ds es (performs_redone ds es x y (sent_is_redo c n x (slice_get c.sites n) is) performs)
    (performs_still n c x y ds es legal is performs) (performs_lived n c x y ds es legal good is performs)

taken_lived : (n : ℕ) (c : Core) (x : Wire) (z : Reply) (ds es : List Store) → Legal c.procs c.events → AllGood c.procs
    → redo.Send x ≡ redo_reply c n → Performs ds x (Some z) es
    → IsRedone c n z → LivesOn (at_rest c ds) (at_rest (after_redone c n z.number) es)
taken_lived n c x z ds es legal good is (There it) redone start l = redone_lived n c x z ds es legal good is it redone start l
taken_lived n c x z ds es legal good is (Nowhere past none same) redone start l = absurd (let bad : Some z ≡ None = none in cc)

-- and its reply is taken in
pub redone_redoes : (n : ℕ) (c : Core) (x : Wire) (z : Reply) (ds es : List Store) → Legal c.procs c.events
    → AllGood c.procs → redo.Send x ≡ redo_reply c n → Performs ds x (Some z) es
    → IsRedone c n z → RedoesAt n c ds (after_redone c n z.number) es
redone_redoes n c x z ds es legal good is performs it =
    let lived = taken_lived n c x z ds es legal good is performs it in
    subst (λ (o : Option Site). RedoesAt n c ds (redone_at c n z.number o) es) (sym it.there)
    (resited n c ds es it.site (record it.site { redo = redone_to z.number it.site.redo }) it.there refl
    (performs_redone ds es x (Some z) (sent_is_redo c n x (slice_get c.sites n) is) performs)
    (performs_still n c x (Some z) ds es legal is performs)
    (subst (λ (o : Option Site). LivesOn (at_rest c ds) (at_rest (redone_at c n z.number o) es)) it.there lived))

-- one number less is left
pub redone_nearer : (n : ℕ) (c : Core) (x : Reply) → Legal c.procs c.events → IsRedone c n x → left_to_redo (after_redone c n x.number) n < left_to_redo c n
unfolding left_to_redo
redone_nearer n c x legal it =
    let facts : IsToRedo c.events n it.r.redone (Some it.a) = subst (IsToRedo c.events n it.r.redone) it.next
    (to_redo_is c.procs c.events legal n it.r.redone) in
    let top = answered_given c.procs c.events legal it.a.number it.a (answered_done c.events n it.a.number it.a facts.1) in
    let was : (site_at c.sites n).redo ≡ Some it.r = ap (λ (o : Option Site). (site_by o).redo) it.there ∙ it.down in
    let again : Site = record it.site { redo = redone_to x.number it.site.redo } in
    let now : (site_at (after_redone c n x.number).sites n).redo ≡ Some (record it.r { redone = x.number }) =
    ap (λ (o : Option Site). (site_at (redone_at c n x.number o).sites n).redo) it.there
    ∙ (ap (λ (s : Site). s.redo) (site_here c.sites n it.site again it.there) ∙ ap (redone_to x.number) it.down) in
    let events : (after_redone c n x.number).events ≡ c.events = ap (λ (o : Option Site). (redone_at c n x.number o).events) it.there in
    let after : numbers_above (given (after_redone c n x.number).events) (site_at (after_redone c n x.number).sites n).redo ≡ given c.events - x.number =
    ap (λ (h : List Event). numbers_above (given h) (site_at (after_redone c n x.number).sites n).redo) events ∙ ap (numbers_above (given c.events)) now in
    let before : numbers_above (given c.events) (site_at c.sites n).redo ≡ given c.events - it.r.redone = ap (numbers_above (given c.events)) was in
    omega (arith, after, before, facts.0, top, it.same_number)

-- what is sent to be redone is of a data component that is down
sends_down_at : (c : Core) (n : ℕ) (x : Wire) (o : Option Site) → redo.Send x ≡ redo_at c n o → (site_by o).redo ≡ None → ⊥
sends_down_at c n x None is none = cc
sends_down_at c n x (Some s) is none = (let bad : redo.Send x ≡ redo.NotDown = is ∙ ap (redo_by c n s.incarnation) none in cc)

pub sends_down : (c : Core) (n : ℕ) (x : Wire) → redo.Send x ≡ redo_reply c n → (site_at c.sites n).redo ≡ None → ⊥
sends_down c n x is none = sends_down_at c n x (slice_get c.sites n) is none
