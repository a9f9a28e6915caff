-- A state that has come back, and its data components.
use Rattle.std.proofs.Common.{◌≡◌, ℕ, zero, suc, ◌<◌, List, [], ◌∷◌, length, map, Option, Some, None, refl, sym, ◌∙◌, ap, subst, arith}
use Rattle.std.specs.Prelude.{slice_get}
use Rattle.std.specs.List.{All}
use Rattle.std.proofs.lemmas.List.{length-map}
use Rattle.std.proofs.lemmas.List.Elements.{All-cons, All-nil}
use Rattle.tc_log.specs.declared.event.Event.{Event}
use Rattle.history.specs.Anew.{begun as begun_in}
use Rattle.history.specs.Places.{Begins}
use Rattle.data_component.specs.Sorted.{Rows, row_of}
use Rattle.serial.specs.Audit.{base_in, base_of, IsBegunTogether}
use Rattle.serial.specs.Lists.{dc_of}
use Rattle.transactions.specs.Legal.{Legal}
use Rattle.transactions.specs.Reached.{AllGood}
use Rattle.data_component.specs.Store.{Store, restarted, news_of}
use Rattle.transactions.specs.declared.Site.{Site}
use Rattle.transactions.specs.InFlight.{site_at, site_by}
use Rattle.transactions.proofs.StandingLemmas.{some_same}
use Rattle.tc_core.specs.Core.{Core, loaded_in}
use Rattle.tc_core.specs.Loaded.{Loaded}
use Rattle.tc_core.specs.Recovery.{recovered, site_noted}
use Rattle.tc_core.specs.declared.recovery.SiteNote.{SiteNote}
use Rattle.tc_core.specs.declared.recovery.SiteNote.TheVariants.{Restarted}
use Rattle.tc_core.proofs.KeptLemmas.{slice_get-short}
use Rattle.tc_world.specs.Whole.{Whole}
use Rattle.tc_world.specs.OneAtATime.{IsKnown, EachIsKnown}
use Rattle.tc_world.specs.Recovery.{IsNew, StandFor}
use Rattle.tc_world.specs.Marks.{AreMarksLow}
use Rattle.tc_world.proofs.Recovering.{start_over_low}
use Rattle.tc_world.specs.Lives.{HasLived}
use Rattle.tc_world.proofs.LivingLemmas.{Sound, new_sound, over_lived}
use Rattle.coming_back.specs.Serving.{IsFor, IsRedoFor}
use Rattle.coming_back.specs.Coming.{HasOnlyRows, at_rest, ComesFrom, begins_again, IsOfRows}
use Rattle.coming_back.specs.Faults.{restart_notes, HasLog}
use Rattle.coming_back.specs.Joining.Moving.{Goes}
use Rattle.coming_back.specs.Joining.Redoing.{Redoes}
use Rattle.coming_back.proofs.ServingLemmas.{served_incarnation}
use Rattle.coming_back.proofs.RedoLemmas.{there}

-- ---- it begins as a world that starts over

map_get : {X Y : Type 0} (f : X → Y) (xs : List X) (k : ℕ) (x : X) → slice_get xs k ≡ Some x → slice_get (map f xs) k ≡ Some (f x)
map_get f [] k x at = absurd cc
map_get f (y ∷ xs) zero x at = (let same : y ≡ x = cc in ap (λ z. Some (f z)) same)
map_get f (y ∷ xs) (suc k) x at = map_get f xs k x at

new_one : (h : List Event) (s : Store) → HasOnlyRows s → s.base_mark ≡ begun_in h → IsNew h (restarted s)
new_one h s only together = record {
  base_mark = together;
  list = only.saved;
  saved = only.saved;
  mark = only.saved_mark ∙ together;
  saved_mark = only.saved_mark ∙ together;
  restarted = omega arith;
}

all_new : (h : List Event) (ds : List Store) → All HasOnlyRows ds → IsBegunTogether h ds → All (IsNew h) (map restarted ds)
all_new h [] all together = All-nil (IsNew h)
all_new h (d ∷ ds) all together =
    All-cons (IsNew h) (restarted d) (map restarted ds) (new_one h d (all 0 d (omega arith)) (together 0 d refl))
    (all_new h ds (λ k x low. all (suc k) x (omega (arith, low))) (λ k s at. together (suc k) s at))

-- a restart leaves the rows with which it begins
rows_restarted : (ds : List Store) (k : ℕ) → base_in (slice_get (map restarted ds) k) ≡ base_in (slice_get ds k)
rows_restarted [] k = refl
rows_restarted (d ∷ ds) zero = refl
rows_restarted (d ∷ ds) (suc k) = rows_restarted ds k

stand_restarted : (ds olds : List Store) → StandFor ds olds → StandFor (map restarted ds) olds
stand_restarted ds olds is = record {
  count = length-map ds restarted ∙ is.count;
  rows = λ r. ap (λ (rows : Rows). row_of rows r) (rows_restarted ds r.dc) ∙ is.rows r;
}

abbrev begun : Loaded → List Event → List Store → Whole
begun l h ds = record {
  core = record { procs = l.codes; names = l.names; dcs = l.dcs; events = h; given_up = []; sites = map site_noted (restart_notes ds) };
  dcs = ds;
  copies = [];
  replies = [];
  news = [];
}

pub begun_lived : (old : Core) (h : List Event) (w : Whole) (ds es : List Store) → ComesFrom w h old ds
    → All HasOnlyRows ds → es ≡ map restarted ds → HasLived (at_rest (recovered old h (restart_notes es)) es)
begun_lived old h w ds es from only is =
    let new : All (IsNew h) es = subst (All (IsNew h)) (sym is) (all_new h ds only from.together) in
    let olds : StandFor es w.dcs = subst (λ (xs : List Store). StandFor xs w.dcs) (sym is) (stand_restarted ds w.dcs from.olds) in
    subst (λ (x : Loaded). HasLived (begun x h es)) from.same (over_lived w h es from.begins new olds from.lived)

-- where the log is one of these rows, the world that begins again is one in which calls run one at a time
pub begun_sound : (old : Core) (h : List Event) (ds : List Store) → AllGood old.procs → Legal old.procs h → IsOfRows h ds → All HasOnlyRows ds
    → Sound (begins_again old h ds)
begun_sound old h ds good legal of_rows only =
    new_sound (at_rest old ds) (base_of ds) h (map restarted ds) good legal of_rows.honest
    (λ r. ap (λ (rows : Rows). row_of rows r) (sym (rows_restarted ds r.dc)))
    (λ n o said logs was. (let s = of_rows.there n o said logs was in (restarted s.0, map_get restarted ds (dc_of o) s.0 s.1)))
    (all_new h ds only of_rows.together)

-- no mark is above that of the log
pub begun_marks : (old : Core) (h : List Event) (ds : List Store) → Legal old.procs h → IsBegunTogether h ds
    → All HasOnlyRows ds → AreMarksLow (begins_again old h ds)
begun_marks old h ds legal together only = start_over_low (at_rest old ds) h (map restarted ds) legal (all_new h ds only together)

-- each has nothing but its rows yet
pub all_begun : (ds : List Store) → All HasOnlyRows ds → All (λ (s : Store). (s.list ≡ []) × (s.mark ≡ s.base_mark)) (map restarted ds)
all_begun [] all = All-nil (λ (s : Store). (s.list ≡ []) × (s.mark ≡ s.base_mark))
all_begun (d ∷ ds) all =
    let only = all 0 d (omega arith) in
    All-cons (λ (s : Store). (s.list ≡ []) × (s.mark ≡ s.base_mark)) (restarted d) (map restarted ds)
    (only.saved, only.saved_mark) (all_begun ds (λ k x low. all (suc k) x (omega (arith, low))))

-- ---- each data component is known

-- as the news tell it
pub site_incarnation : (c : Core) (ds : List Store) (n : ℕ) (s : Store) → c.sites ≡ map site_noted (restart_notes ds)
    → slice_get ds n ≡ Some s → (site_at c.sites n).incarnation ≡ s.incarnation
site_incarnation c ds n s noted at =
    ap (λ (xs : List Site). (site_at xs n).incarnation) noted
    ∙ ap (λ (o : Option Site). (site_by o).incarnation)
    (map_get site_noted (restart_notes ds) n (Restarted (news_of s))
    (map_get (λ (x : Store). Restarted (news_of x)) ds n s at))

-- and down, with its redo from the mark on
pub site_down : (c : Core) (ds : List Store) (n : ℕ) (s : Store) → c.sites ≡ map site_noted (restart_notes ds) → slice_get ds n ≡ Some s
    → (site_at c.sites n).redo ≡ Some (record { mark = s.mark; redone = s.mark })
site_down c ds n s noted at =
    ap (λ (xs : List Site). (site_at xs n).redo) noted
    ∙ ap (λ (o : Option Site). (site_by o).redo) (map_get site_noted (restart_notes ds) n (Restarted (news_of s))
    (map_get (λ (x : Store). Restarted (news_of x)) ds n s at))

known_at : (c d : Core) (ds es : List Store) → c.sites ≡ map site_noted (restart_notes ds) → Redoes c ds d es
    → ((n : ℕ) → n < length d.sites → (site_at d.sites n).redo ≡ None) → (n : ℕ) (s : Store) → slice_get es n ≡ Some s → IsKnown (at_rest d es) n s
known_at c d ds es noted redoes up n s at =
    let short = slice_get-short es n s at in
    let many = redoes.redone.count in
    let was = there ds n (omega (arith, short, many)) in
    let now = redoes.redone.each n was.0 was.1 in
    let same : now.now ≡ s = some_same now.now s (sym now.at ∙ at) in
    let incarnation : s.incarnation ≡ was.0.incarnation = ap (λ (x : Store). x.incarnation) (sym same)
    ∙ served_incarnation (IsRedoFor n) was.0 now.now now.served in
    let count : length c.sites ≡ length ds = ap length noted
    ∙ (length-map (restart_notes ds) site_noted ∙ length-map ds (λ (x : Store). Restarted (news_of x))) in
    let more = redoes.count in
    record {
      up = up n (omega (arith, short, many, count, more));
      now = redoes.incarnations n ∙ (site_incarnation c ds n was.0 noted was.1 ∙ sym incarnation);
    }

-- behind a redo
pub known_redone : (c d : Core) (ds es : List Store) → c.sites ≡ map site_noted (restart_notes ds) → Redoes c ds d es
    → ((n : ℕ) → n < length d.sites → (site_at d.sites n).redo ≡ None) → EachIsKnown (at_rest d es)
known_redone c d ds es noted redoes up = λ n s at. known_at c d ds es noted redoes up n s at

still_at : (c d : Core) (ds es : List Store) → Goes c ds d es → EachIsKnown (at_rest c ds) → (n : ℕ) (s : Store) → slice_get es n ≡ Some s
    → IsKnown (at_rest d es) n s
still_at c d ds es goes known n s at =
    let sites : d.sites ≡ c.sites = ap (λ (x : Core). x.sites) goes.core in
    let short = slice_get-short es n s at in
    let many = goes.served.count in
    let was = there ds n (omega (arith, short, many)) in
    let now = goes.served.each n was.0 was.1 in
    let same : now.now ≡ s = some_same now.now s (sym now.at ∙ at) in
    let incarnation : s.incarnation ≡ was.0.incarnation = ap (λ (x : Store). x.incarnation) (sym same)
    ∙ served_incarnation (IsFor n) was.0 now.now now.served in
    let it = known n was.0 was.1 in
    record {
      up = ap (λ (xs : List Site). (site_at xs n).redo) sites ∙ it.up;
      now = ap (λ (xs : List Site). (site_at xs n).incarnation) sites ∙ (it.now ∙ sym incarnation);
    }

-- and behind the transactions that go on
pub known_still : (c d : Core) (ds es : List Store) → Goes c ds d es → EachIsKnown (at_rest c ds) → EachIsKnown (at_rest d es)
known_still c d ds es goes known = λ n s at. still_at c d ds es goes known n s at

-- ---- the state has the log

pub has_log : (old c : Core) (h : List Event) (notes : List SiteNote) → c ≡ recovered old h notes → HasLog old h c
has_log old c h notes is = is ∙ ap (λ (xs : List Site). let it : Core = record old
    { events = h; given_up = []; sites = xs } in it) (sym (ap (λ (x : Core). x.sites) is))

pub redone_log : (old c d : Core) (h : List Event) (ds es : List Store) → HasLog old h c → Redoes c ds d es → HasLog old h d
redone_log old c d h ds es log redoes = redoes.core ∙ ap (λ (x : Core). let it : Core = record x { sites = d.sites } in it) log

pub goes_loaded : (old c d : Core) (h : List Event) (ds es : List Store) → HasLog old h c → Goes c ds d es → loaded_in d ≡ loaded_in old
goes_loaded old c d h ds es log goes = ap loaded_in goes.core ∙ ap loaded_in log

pub goes_begins : (old c d : Core) (h : List Event) (ds es : List Store) → HasLog old h c → Goes c ds d es → Begins h d.events
goes_begins old c d h ds es log goes = subst (λ (l : List Event). Begins l d.events) (ap (λ (x : Core). x.events) log) goes.begins
