-- What is known of data components stays known.
use Rattle.std.proofs.Common.{◌≡◌, ◌≢◌, ◌≤◌, ℕ, zero, suc, List, [], ◌∷◌, Option, Some, None, Result, Ok, Err, refl, sym, ◌∙◌, ap, subst, inl, inr}
use Rattle.std.proofs.Common.{arith, ◌<◌, Bool, true, false, cond, nat_lt}
use Rattle.std.proofs.lemmas.Bool.{cases_eq}
use Rattle.std.proofs.lemmas.Bool.Decides.{nat_tests}
use Rattle.std.specs.Prelude.{slice_get, slice_set, OnOk, OnErr, IfErr, IfSome, IsOk, ◌↔◌}
use Rattle.access_slots.specs.declared.op.News.{News}
use Rattle.access_slots.specs.declared.op.Reply.{Reply}
use Rattle.history.specs.Anew.{begun}
use Rattle.history.specs.Redo.{IsToRedo}
use Rattle.transactions.specs.declared.Redoing.{Redoing}
use Rattle.transactions.specs.declared.Site.{Site}
use Rattle.transactions.specs.InFlight.{site_by, site_at}
use Rattle.transactions.specs.Legal.{Legal}
use Rattle.transactions.proofs.Restarts.{to_redo_is}
use Rattle.transactions.proofs.StandingLemmas.{some_same, none_some}
use Rattle.tc_log.specs.declared.event.Outcome.{Outcome}
use Rattle.tc_core.specs.Core.{Core}
use Rattle.tc_core.specs.Replies.{after_ask, after_undo, after_end}
use Rattle.tc_core.specs.declared.state.Asked.{Asked}
use Rattle.tc_core.specs.declared.state.Asked.TheVariants.{Request, Undoing, Over, Stuck, Waits, Running, Unknown}
use Rattle.tc_core.specs.Redo.{with_site, lost_fault, news_fault_by, news_fault, down_by, after_told, up_again, after_redo, IsRedone, redone_to, redone_at, after_redone}
use Rattle.tc_core.specs.declared.state.NewsFault.{NewsFault}
use Rattle.tc_core.specs.declared.state.NewsFault.TheVariants as fault
use Rattle.tc_core.specs.declared.state.Redo.{Redo}
use Rattle.tc_core.specs.declared.state.Redo.TheVariants as redo
use Rattle.tc_core.specs.declared.state.RedoMismatch.{RedoMismatch}
use Rattle.worker_pool.specs.Restarts.{IsRedoneTo, HasCome, StaysKnown, AreKnown, IsKnownRedone}
use Rattle.worker_pool.proofs.Carrying.{set_up}

set_beside : (sites : List Site) (d e : ℕ) (s : Site) → e ≢ d → slice_get (slice_set sites d s) e ≡ slice_get sites e
set_beside [] d e s other = refl
set_beside (y ∷ sites) zero zero s other = absurd (other refl)
set_beside (y ∷ sites) zero (suc e) s other = refl
set_beside (y ∷ sites) (suc d) zero s other = refl
set_beside (y ∷ sites) (suc d) (suc e) s other = set_beside sites d e s (λ same. other (ap suc same))

site_there : (sites : List Site) (d : ℕ) (s t : Site) → slice_get sites d ≡ Some s → site_at (slice_set sites d t) d ≡ t
site_there sites d s t at = ap site_by (set_up sites d t s at)

-- of one data component more is known
sited : (c : Core) (d : ℕ) (s t : Site) → slice_get c.sites d ≡ Some s
    → ((incarnation n : ℕ) → HasCome s incarnation n → HasCome t incarnation n) → StaysKnown c (with_site c d t)
sited c d s t at more = λ e incarnation n come. elim (cases_eq e d) [
  | inl here ↦
      let was : site_at c.sites e ≡ s = ap (site_at c.sites) here ∙ ap site_by at in
      let is : site_at (slice_set c.sites d t) e ≡ t = ap (site_at (slice_set c.sites d t)) here ∙ site_there c.sites d s t at in
      subst (λ (x : Site). HasCome x incarnation n) (sym is) (more incarnation n (subst (λ (x : Site). HasCome x incarnation n) was come))
  | inr other ↦ subst (λ (o : Option Site). HasCome (site_by o) incarnation n) (sym (set_beside c.sites d e t other)) come
]

pub known_same : (old new : Core) → new.sites ≡ old.sites → StaysKnown old new
known_same old new same = λ d incarnation n come. subst (λ (sites : List Site). HasCome (site_at sites d) incarnation n) (sym same) come

pub known_then : (old mid new : Core) → mid.sites ≡ old.sites → StaysKnown mid new → StaysKnown old new
known_then old mid new same known = λ d incarnation n come. known d incarnation n (known_same old mid same d incarnation n come)

pub asked_sites : (c : Core) (reply : Asked) → (after_ask c reply).sites ≡ c.sites
asked_sites c (Request r) = refl
asked_sites c Undoing = refl
asked_sites c Over = refl
asked_sites c (Stuck n) = refl
asked_sites c (Waits n) = refl
asked_sites c Running = refl
asked_sites c Unknown = refl

pub undone_sites : (c : Core) (reply : Asked) → (after_undo c reply).sites ≡ c.sites
undone_sites c (Request r) = refl
undone_sites c Undoing = refl
undone_sites c Over = refl
undone_sites c (Stuck n) = refl
undone_sites c (Waits n) = refl
undone_sites c Running = refl
undone_sites c Unknown = refl

pub ended_sites : (c : Core) (t : ℕ) (o : Option Outcome) → (after_end c t o).sites ≡ c.sites
ended_sites c t None = refl
ended_sites c t (Some o) = refl

come_up : (s : Site) (incarnation n : ℕ) → HasCome s incarnation n → HasCome (record s { redo = None }) incarnation n
come_up s incarnation n come = elim come [
  | inl later ↦ inl later
  | inr now ↦ inr (now.0, tt)
]

pub known_behind : (c : Core) (d : ℕ) (reply : Redo) → StaysKnown c (after_redo c d reply)
known_behind c d (redo.Send w) = known_same c c refl
known_behind c d redo.Finished = by (slice_get c.sites d) refl
  where
    by : (o : Option Site) → slice_get c.sites d ≡ o → StaysKnown c (up_again c d o)
    by None at = known_same c c refl
    by (Some s) at = sited c d s (record s { redo = None }) at (come_up s)
known_behind c d redo.NotDown = known_same c c refl
known_behind c d redo.NoDc = known_same c c refl

-- ---- news, and what is redone

taken_by : (c : Core) (d : ℕ) (news : News) (o : Option Site) → slice_get c.sites d ≡ o → news_fault_by (begun c.events) o news ≡ None
    → HasCome (site_at (after_told c d news).sites d) news.incarnation news.mark
taken_by c d news None at took = absurd cc
taken_by c d news (Some s) at took =
    subst (λ (x : Site). HasCome x news.incarnation news.mark) (sym (site_there c.sites d s (down_by news) at)) (inr (refl, omega arith))

pub now_told : (old new : Core) (d : ℕ) (news : News) (result : Result Unit NewsFault)
    → OnOk result (new ≡ after_told old d news) → IfErr result (λ f. news_fault old d news ≡ Some f) → AreKnown old new d news
now_told old new d news (Ok x) ok fault = λ took.
    subst (λ (c : Core). HasCome (site_at c.sites d) news.incarnation news.mark) (sym ok) (taken_by old d news (slice_get old.sites d) refl took)
now_told old new d news (Err f) ok fault = λ took. absurd (none_some (news_fault old d news) f took fault)

news_later : (from : ℕ) (s : Site) (news : News) → news_fault_by from (Some s) news ≡ None → s.incarnation < news.incarnation
news_later from s news took = by (nat_lt s.incarnation news.incarnation) refl took
  where
    by : (b : Bool) → nat_lt s.incarnation news.incarnation ≡ b → cond b (lost_fault from news) (Some fault.OldNews) ≡ None → s.incarnation < news.incarnation
    by true later took' = grind (arith, nat_tests)
    by false old took' = absurd cc

come_later : (s : Site) (news : News) (incarnation n : ℕ) → s.incarnation < news.incarnation → HasCome s incarnation n → HasCome (down_by news) incarnation n
come_later s news incarnation n later come = elim come [
  | inl before ↦ inl (omega (arith, later, before))
  | inr now ↦ inl (omega (arith, later, now.0))
]

pub known_told : (old new : Core) (d : ℕ) (news : News) (result : Result Unit NewsFault) → OnOk result (news_fault old d news ≡ None)
    → OnOk result (new ≡ after_told old d news) → OnErr result (new ≡ old) → StaysKnown old new
known_told old new d news (Ok x) took ok err = subst (λ (c : Core). StaysKnown old c) (sym ok) (by (slice_get old.sites d) refl took)
  where
    by : (o : Option Site) → slice_get old.sites d ≡ o → news_fault_by (begun old.events) o news ≡ None → StaysKnown old (after_told old d news)
    by None at took' = absurd cc
    by (Some s) at took' =
        sited old d s (down_by news) at (λ incarnation n come. come_later s news incarnation n (news_later (begun old.events) s news took') come)
known_told old new d news (Err f) took ok err = known_same old new (ap (λ (c : Core). c.sites) err)

redone_here : (n : ℕ) (o : Option Redoing) → IsRedoneTo n (redone_to n o)
redone_here n None = tt
redone_here n (Some r) = omega arith

heard_by : (c : Core) (d : ℕ) (x : Reply) (o : Option Site) → slice_get c.sites d ≡ o → IsRedone c d x
    → HasCome (site_at (redone_at c d x.number o).sites d) x.incarnation x.number
heard_by c d x None at it = absurd (none_some (slice_get c.sites d) it.site at it.there)
heard_by c d x (Some s) at it =
    let same : s ≡ it.site = some_same s it.site (sym at ∙ it.there) in
    subst (λ (y : Site). HasCome y x.incarnation x.number) (sym (site_there c.sites d s (record s { redo = redone_to x.number s.redo }) at))
    (inr (it.same_incarnation ∙ ap (λ (y : Site). y.incarnation) (sym same), redone_here x.number s.redo))

pub now_redone : (old new : Core) (d : ℕ) (x : Reply) (result : Result Unit RedoMismatch) → (IsOk result ↔ IsRedone old d x)
    → OnOk result (new ≡ after_redone old d x.number) → IsKnownRedone old new d x
now_redone old new d x (Ok u) accepted ok = λ it.
    subst (λ (c : Core). HasCome (site_at c.sites d) x.incarnation x.number) (sym ok) (heard_by old d x (slice_get old.sites d) refl it)
now_redone old new d x (Err s) accepted ok = λ it. absurd (let bad : false ≡ true = accepted.1 it in cc)

come_redone : (s : Site) (r : Redoing) (n : ℕ) → s.redo ≡ Some r → r.redone ≤ n
    → (incarnation m : ℕ) → HasCome s incarnation m → HasCome (record s { redo = redone_to n s.redo }) incarnation m
come_redone s r n down up incarnation m come = elim come [
  | inl later ↦ inl later
  | inr now ↦
      let few : m ≤ r.redone = subst (IsRedoneTo m) down now.1 in
      inr (now.0, subst (λ (o : Option Redoing). IsRedoneTo m (redone_to n o)) (sym down) (omega (arith, few, up)))
]

heard_more : (c : Core) (d : ℕ) (x : Reply) (o : Option Site) → slice_get c.sites d ≡ o → Legal c.procs c.events → IsRedone c d x
    → StaysKnown c (redone_at c d x.number o)
heard_more c d x None at legal it = known_same c c refl
heard_more c d x (Some s) at legal it =
    let same : it.site ≡ s = some_same it.site s (sym it.there ∙ at) in
    let down : s.redo ≡ Some it.r = ap (λ (y : Site). y.redo) (sym same) ∙ it.down in
    let least = subst (IsToRedo c.events d it.r.redone) it.next (to_redo_is c.procs c.events legal d it.r.redone) in
    let up : it.r.redone ≤ x.number = (let above = least.0 in let number = it.same_number in omega (arith, above, number)) in
    sited c d s (record s { redo = redone_to x.number s.redo }) at (come_redone s it.r x.number down up)

pub known_redone : (old new : Core) (d : ℕ) (x : Reply) (result : Result Unit RedoMismatch) → Legal old.procs old.events
    → (IsOk result ↔ IsRedone old d x) → OnOk result (new ≡ after_redone old d x.number) → OnErr result (new ≡ old) → StaysKnown old new
known_redone old new d x (Ok u) legal accepted ok err =
    subst (λ (c : Core). StaysKnown old c) (sym ok) (heard_more old d x (slice_get old.sites d) refl legal (accepted.0 refl))
known_redone old new d x (Err s) legal accepted ok err = known_same old new (ap (λ (c : Core). c.sites) err)

-- ---- and behind that

pub still_told : (old mid new : Core) (d : ℕ) (o : Option News) → IfSome o (AreKnown old mid d) → StaysKnown mid new → IfSome o (AreKnown old new d)
still_told old mid new d None told known = tt
still_told old mid new d (Some news) told known = λ took. known d news.incarnation news.mark (told took)

pub still_redone : (old mid new : Core) (d : ℕ) (x : Reply) → IsKnownRedone old mid d x → StaysKnown mid new → IsKnownRedone old new d x
still_redone old mid new d x redone known = λ it. known d x.incarnation x.number (redone it)
