-- A data component that is redone has what the log says was done there.
use Rattle.std.proofs.Common.{◌≡◌, ◌≢◌, ℕ, zero, suc, ◌+◌, ◌-◌, ◌<◌, ◌≤◌, Bool, true, false, cond, ◌==◌, List, []}
use Rattle.std.proofs.Common.{◌∷◌, ◌++◌, map, Option, Some, None, refl, sym, ◌∙◌, ap, subst, inl, inr, arith}
use Rattle.std.specs.Prelude.{slice_get}
use Rattle.std.specs.List.{All}
use Rattle.std.proofs.lemmas.Bool.{cases_lt, cond-true, cond-false}
use Rattle.access_slots.specs.Locks.{target}
use Rattle.access_slots.specs.declared.op.Op.{Op}
use Rattle.access_slots.specs.declared.op.Said.{Said}
use Rattle.access_slots.specs.declared.op.Said.TheVariants.{Old}
use Rattle.access_slots.specs.declared.op.Reply.{Reply}
use Rattle.access_slots.specs.declared.op.Wire.{Wire}
use Rattle.verifier.specs.Checked.{Checked}
use Rattle.tc_log.specs.declared.event.Event.{Event}
use Rattle.history.specs.Flight.{given}
use Rattle.history.specs.Redo.{is_done, is_done_at, if_done_at, answered, done_at, to_redo, IsToRedo}
use Rattle.history.specs.declared.Answered.{Answered}
use Rattle.data_component.specs.Performed.{Performed, said_under}
use Rattle.data_component.specs.Store.{Store, marked, store_by, fate_of, Fate, IsOld, Again, Silent, New, replied, performed}
use Rattle.transactions.specs.declared.Redoing.{Redoing}
use Rattle.transactions.specs.declared.Site.{Site}
use Rattle.transactions.specs.InFlight.{site_at, site_by}
use Rattle.transactions.specs.Legal.{Legal}
use Rattle.transactions.proofs.StandingLemmas.{some_same, none_some}
use Rattle.transactions.proofs.Restarts.{answered_given, done_number, to_redo_is}
use Rattle.serial.proofs.ListLemmas.{under_other}
use Rattle.serial.proofs.LockLemmas.{both_left}
use Rattle.serial.proofs.SitesLemmas.{set_same}
use Rattle.serial.proofs.StoreLemmas.{PerformCase, old, silent, again, news, perform_case, says}
use Rattle.tc_core.specs.Core.{Core}
use Rattle.tc_core.specs.Redo.{redo_wire, redo_reply, redo_at, redo_by, sends_again, after_redo, up_again, IsRedone, redone_to, redone_at, after_redone}
use Rattle.tc_core.specs.declared.state.Redo.{Redo}
use Rattle.tc_core.specs.declared.state.Redo.TheVariants as redo
use Rattle.coming_back.specs.Done.{list_of, done_above, HasWhatWasDone, EachHasWhatWasDone}
use Rattle.coming_back.specs.Joining.Performing.{Performs, There, Nowhere}
use Rattle.coming_back.specs.Joining.Redoing.{IsDoneTo, IsRedoneTo, Redoes, RedoesAt}
use Rattle.coming_back.proofs.LivedLemmas.{answered_done}
use Rattle.coming_back.proofs.SentLemmas.{sent_at}
use Rattle.tc_core.specs.Recovery.{site_noted}
use Rattle.tc_core.proofs.KeptLemmas.{slice_get-short}
use Rattle.tc_world.specs.OneAtATime.{EachIsKnown}
use Rattle.tc_world.proofs.ComingBack.{all_at}
use Rattle.coming_back.specs.Faults.{restart_notes}
use Rattle.coming_back.specs.Coming.{at_rest}
use Rattle.coming_back.proofs.ComingLemmas.{site_down}
use Rattle.coming_back.proofs.RedoLemmas.{NoSend, site_here, there}

-- ---- what was done, by number

-- no later number stands there
none_later : (h : List Event) (d from more n : ℕ) → from + more < n → said_under (done_above h d from more) n ≡ None
none_later h d from zero n above = refl
none_later h d from (suc more) n above = by (none_later h d from more n (omega (arith, above))) (done_at h d (from + suc more)) refl
  where
    by : said_under (done_above h d from more) n ≡ None → (o : Option Answered) → done_at h d (from + suc more) ≡ o
        → said_under (list_of o ++ done_above h d from more) n ≡ None
    by rest None is = rest
    by rest (Some a) is =
        let number = done_number h d (from + suc more) a is in
        under_other a.number n a.op a.said (done_above h d from more) (λ same. absurd (omega (arith, number, same, above))) ∙ rest

-- numbers under which nothing was done add nothing
skipped : (h : List Event) (d from more gap total : ℕ) → total ≡ gap + more → ((k : ℕ) → from + more < k → k ≤ from + total → done_at h d k ≡ None)
    → done_above h d from total ≡ done_above h d from more
skipped h d from more zero total is none = ap (done_above h d from) (omega (arith, is))
skipped h d from more (suc gap) total is none =
    let top : total ≡ suc (gap + more) = omega (arith, is) in
    ap (done_above h d from) top
    ∙ (ap (λ (o : Option Answered). list_of o ++ done_above h d from (gap + more)) (none (from + suc (gap + more)) (omega arith) (omega (arith, top)))
    ∙ skipped h d from more gap (gap + more) refl (λ k above below. none k above (omega (arith, below, top))))

-- the next one that was done
next_list : (h : List Event) (d from redone : ℕ) (a : Answered) → from ≤ redone → redone < a.number → done_at h d a.number ≡ Some a
    → ((m : ℕ) → redone < m → m < a.number → done_at h d m ≡ None)
    → done_above h d from (a.number - from) ≡ (a.number, a.op, a.said) ∷ done_above h d from (redone - from)
next_list h d from redone a low above is none =
    let more = a.number - from - 1 in
    let top : a.number - from ≡ suc more = omega (arith, low, above) in
    let place : from + suc more ≡ a.number = omega (arith, low, above) in
    ap (done_above h d from) top
    ∙ (ap (λ (o : Option Answered). list_of o ++ done_above h d from more) (ap (done_at h d) place ∙ is)
    ∙ ap (λ (l : List Performed). (a.number, a.op, a.said) ∷ l)
    (skipped h d from (redone - from) (more - (redone - from)) more (omega (arith, low, above))
    (λ k over under. none k (omega (arith, low, over)) (omega (arith, low, above, under)))))

none_beyond : (ps : List Checked) (h : List Event) → Legal ps h → (d k : ℕ) → given h < k → done_at h d k ≡ None
none_beyond ps h legal d k above = by (done_at h d k) refl
  where
    by : (o : Option Answered) → done_at h d k ≡ o → o ≡ None
    by None is = refl
    by (Some a) is = (let few = answered_given ps h legal k a (answered_done h d k a is) in absurd (omega (arith, few, above)))

-- where none is left, that is all
last_list : (ps : List Checked) (h : List Event) → Legal ps h → (d from redone : ℕ) → from ≤ redone → ((m : ℕ) → redone < m → done_at h d m ≡ None)
    → done_above h d from (given h - from) ≡ done_above h d from (redone - from)
last_list ps h legal d from redone low none = elim (cases_lt redone (given h)) [
  | inl more ↦ skipped h d from (redone - from) (given h - redone) (given h - from) (omega (arith, low, more))
      (λ k over under. none k (omega (arith, low, over)))
  | inr less ↦
      sym (skipped h d from (given h - from) (redone - from - (given h - from)) (redone - from) (omega (arith, low, less))
      (λ k over under. none_beyond ps h legal d k (omega (arith, over))))
]

-- ---- one that is redone

base_by : (s : Store) (n : ℕ) (o : Op) (f : Fate) → (store_by s n o f).base_mark ≡ s.base_mark
base_by s n o IsOld = refl
base_by s n o (Again said) = refl
base_by s n o Silent = refl
base_by s n o (New said) = refl

if_heard : (b : Bool) (s t : Store) → t.base_mark ≡ s.base_mark → (cond b t s).base_mark ≡ s.base_mark
if_heard true s t same = same
if_heard false s t same = refl

same_base : (s : Store) (x : Wire) → (performed s x).base_mark ≡ s.base_mark
same_base s x = if_heard (s.incarnation == x.incarnation) s
    (store_by (marked s x.low_water) x.number x.op (fate_of s x))
    (base_by (marked s x.low_water) x.number x.op (fate_of s x))

-- the answer is the one that was logged, and its number is performed for the first time
listed : (s : Store) (x : Wire) (z : Reply) (said : Said) → said_under s.list x.number ≡ None → replied s x ≡ Some z
    → z.said ≡ said → is_done said ≡ true → PerformCase s x
    → (performed s x).list ≡ (x.number, x.op, said) ∷ s.list
listed s x z said none says_z same done (old r l) =
    let is : Old ≡ said = ap (λ (y : Reply). y.said) (some_same _ z (sym r ∙ says_z)) ∙ same in
    absurd (let bad : false ≡ true = ap is_done is ∙ done in cc)
listed s x z said none says_z same done (silent r l) = absurd (none_some _ z r says_z)
listed s x z said none says_z same done (again other u r l) = absurd (none_some _ other none u)
listed s x z said none says_z same done (news u r l) =
    let is : says s x ≡ said = ap (λ (y : Reply). y.said) (some_same _ z (sym r ∙ says_z)) ∙ same in
    l ∙ ap (λ (w : Said). (x.number, x.op, w) ∷ s.list) is

done_so : (d : ℕ) (o : Option Answered) (a : Answered) → if_done_at d o ≡ Some a → is_done a.said ≡ true
done_so d None a is = absurd cc
done_so d (Some b) a is = by (is_done_at d b) refl
  where
    by : (x : Bool) → is_done_at d b ≡ x → is_done a.said ≡ true
    by true e =
        let same : b ≡ a = some_same b a (sym (cond-true _ (Some b) None e) ∙ is) in
        subst (λ (c : Answered). is_done c.said ≡ true) same (both_left (is_done b.said) _ e)
    by false e = absurd (none_some _ a (cond-false _ (Some b) None e) is)

sent_as : (incarnation mark : ℕ) (x : Wire) (a : Answered) → redo.Send x ≡ redo.Send (redo_wire incarnation mark a) → x ≡ redo_wire incarnation mark a
sent_as incarnation mark x a is = cc

-- the state once a number is redone, at its data component
done_behind : (c : Core) (ds es : List Store) (n : ℕ) (t : Store) (z : Reply) (it : IsRedone c n z) → slice_get es n ≡ Some t → t.base_mark ≤ z.number
    → t.list ≡ done_above c.events n t.base_mark (z.number - t.base_mark) → IsRedoneTo (after_redone c n z.number) es n
done_behind c ds es n t z it at low list =
    subst (λ (o : Option Site). IsRedoneTo (redone_at c n z.number o) es n) (sym it.there)
    (record {
      s = t;
      at = at;
      to = subst (IsDoneTo c.events n t)
          (sym (ap (λ (s : Site). s.redo) (site_here c.sites n it.site again it.there)
          ∙ ap (redone_to z.number) it.down)) (low, list);
    })
  where
    again : Site
    again = record it.site { redo = redone_to z.number it.site.redo }

so_far : (c : Core) (ds : List Store) (n : ℕ) (r : Redoing) (so : IsRedoneTo c ds n) → (site_at c.sites n).redo ≡ Some r → IsDoneTo c.events n so.s (Some r)
so_far c ds n r so down = subst (IsDoneTo c.events n so.s) down so.to

-- what is redone is the next of what was done
pub redone_done : (n : ℕ) (c : Core) (x : Wire) (z : Reply) (ds es : List Store) → Legal c.procs c.events
    → redo.Send x ≡ redo_reply c n → Performs ds x (Some z) es
    → IsRedone c n z → IsRedoneTo c ds n → IsRedoneTo (after_redone c n z.number) es n
redone_done n c x z ds es legal is (Nowhere past none same) it so = absurd (let bad : Some z ≡ None = none in cc)
redone_done n c x z ds es legal is (There p) it so =
    let sent = sent_at c n x (slice_get c.sites n) legal refl is in
    let wire : x ≡ redo_wire it.site.incarnation it.r.mark it.a =
    sent_as it.site.incarnation it.r.mark x it.a
    (is ∙ (ap (redo_at c n) it.there ∙ (ap (redo_by c n it.site.incarnation) it.down ∙ ap (sends_again it.site.incarnation it.r.mark) it.next))) in
    let facts : IsToRedo c.events n it.r.redone (Some it.a) = subst (IsToRedo c.events n it.r.redone) it.next
    (to_redo_is c.procs c.events legal n it.r.redone) in
    let s : Store = p.s in
    let mine : s ≡ so.s = some_same s so.s (sym p.at ∙ (ap (slice_get ds) sent.dc ∙ so.at)) in
    let down : (site_at c.sites n).redo ≡ Some it.r = ap (λ (o : Option Site). (site_by o).redo) it.there ∙ it.down in
    let to : IsDoneTo c.events n s (Some it.r) = subst (λ (t : Store). IsDoneTo c.events n t (Some it.r)) (sym mine) (so_far c ds n it.r so down) in
    let low = to.0 in
    let above = facts.0 in
    let number : x.number ≡ it.a.number = ap (λ (y : Wire). y.number) wire in
    let op : x.op ≡ it.a.op = ap (λ (y : Wire). y.op) wire in
    let none : said_under s.list x.number ≡ None =
    ap (λ (l : List Performed). said_under l x.number) to.1
    ∙ none_later c.events n s.base_mark (it.r.redone - s.base_mark) x.number (omega (arith, low, above, number)) in
    let t : Store = performed s x in
    let base : t.base_mark ≡ s.base_mark = same_base s x in
    let list : t.list ≡ (x.number, x.op, it.a.said) ∷ s.list =
    listed s x z it.a.said none (sym p.said) it.same_answer (done_so n (answered c.events it.a.number) it.a facts.1) (perform_case s x) in
    let whole : t.list ≡ done_above c.events n s.base_mark (it.a.number - s.base_mark) =
    list
    ∙ (ap (λ (m : ℕ). (m, x.op, it.a.said) ∷ s.list) number
    ∙ (ap (λ (o : Op). (it.a.number, o, it.a.said) ∷ s.list) op
    ∙ (ap (λ (l : List Performed). (it.a.number, it.a.op, it.a.said) ∷ l) to.1
    ∙ sym (next_list c.events n s.base_mark it.r.redone it.a low above facts.1 facts.2)))) in
    done_behind c ds es n t z it
    (subst (λ (k : ℕ). slice_get es k ≡ Some t) sent.dc
    (ap (λ (fs : List Store). slice_get fs (target x.op).dc) p.then_is ∙ set_same ds (target x.op).dc s t p.at))
    (let same = it.same_number in omega (arith, low, above, base, same))
    (subst (λ (m : ℕ). t.list ≡ done_above c.events n t.base_mark (m - t.base_mark)) (sym it.same_number)
    (subst (λ (b : ℕ). t.list ≡ done_above c.events n b (it.a.number - b)) (sym base) whole))

-- where nothing is to be redone, that is all
up_done : (c : Core) (n incarnation mark redone : ℕ) (s : Site) (ds : List Store) (a : Option Answered) → Legal c.procs c.events → slice_get c.sites n ≡ Some s
    → s.redo ≡ Some (record { mark = mark; redone = redone }) → to_redo c.events n redone ≡ a
    → NoSend (sends_again incarnation mark a) → IsRedoneTo c ds n → IsRedoneTo (after_redo c n (sends_again incarnation mark a)) ds n
up_done c n incarnation mark redone s ds (Some a) legal at down next no_send so = absurd no_send
up_done c n incarnation mark redone s ds None legal at down next no_send so =
    let r : Redoing = record { mark = mark; redone = redone } in
    let to : IsDoneTo c.events n so.s (Some r) = so_far c ds n r so (ap (λ (o : Option Site). (site_by o).redo) at ∙ down) in
    let none : IsToRedo c.events n redone None = subst (IsToRedo c.events n redone) next (to_redo_is c.procs c.events legal n redone) in
    let low = to.0 in
    subst (λ (o : Option Site). IsRedoneTo (up_again c n o) ds n) (sym at)
    (record {
      s = so.s;
      at = so.at;
      to = subst (IsDoneTo c.events n so.s) (sym (ap (λ (x : Site). x.redo) (site_here c.sites n s (record s { redo = None }) at)))
          (to.1 ∙ sym (last_list c.procs c.events legal n so.s.base_mark redone low none));
    })

up_site_done : (c : Core) (n : ℕ) (s : Site) (ds : List Store) (o : Option Redoing) → Legal c.procs c.events → s.redo ≡ o → slice_get c.sites n ≡ Some s
    → NoSend (redo_by c n s.incarnation o) → IsRedoneTo c ds n → IsRedoneTo (after_redo c n (redo_by c n s.incarnation o)) ds n
up_site_done c n s ds None legal up at no_send so = so
up_site_done c n s ds (Some r) legal down at no_send so = up_done c n s.incarnation r.mark r.redone s ds
    (to_redo c.events n r.redone) legal at down refl no_send so

up_at_done : (c : Core) (n : ℕ) (ds : List Store) (o : Option Site) → Legal c.procs c.events → slice_get c.sites n ≡ o → NoSend (redo_at c n o)
    → IsRedoneTo c ds n → IsRedoneTo (after_redo c n (redo_at c n o)) ds n
up_at_done c n ds None legal at no_send so = so
up_at_done c n ds (Some s) legal at no_send so = up_site_done c n s ds s.redo legal refl at no_send so

pub next_done : (c d : Core) (n : ℕ) (ds : List Store) (a : Redo) → a ≡ redo_reply c n → d ≡ after_redo c n a → NoSend a → Legal c.procs c.events
    → IsRedoneTo c ds n → IsRedoneTo d ds n
next_done c d n ds a is after no_send legal so =
    subst (λ (e : Core). IsRedoneTo e ds n) (sym (after ∙ ap (after_redo c n) is))
    (up_at_done c n ds (slice_get c.sites n) legal refl (subst NoSend is no_send) so)

-- ---- the others

pub others_done : (c d : Core) (ds es : List Store) (n e : ℕ) → RedoesAt n c ds d es → e ≢ n → IsRedoneTo c ds e → IsRedoneTo d es e
others_done c d ds es n e redoes other so = record {
  s = so.s;
  at = redoes.stores e other ∙ so.at;
  to = subst (λ (h : List Event). IsDoneTo h e so.s (site_at d.sites e).redo) (sym (ap (λ (x : Core). x.events) redoes.redoes.core))
      (subst (λ (t : Site). IsDoneTo c.events e so.s t.redo) (sym (redoes.others e other)) so.to);
}

-- ---- from the beginning to the end

-- a new data component that has restarted has nothing yet
begun_done : (c : Core) (es : List Store) (n : ℕ) (s : Store) → c.sites ≡ map site_noted (restart_notes es)
    → slice_get es n ≡ Some s → s.list ≡ [] → s.mark ≡ s.base_mark
    → IsRedoneTo c es n
begun_done c es n s noted at none mark =
    let gap : s.mark - s.base_mark ≡ 0 = omega (arith, mark) in
    record {
      s = s;
      at = at;
      to = subst (λ (o : Option Redoing). IsDoneTo c.events n s o) (sym (site_down c es n s noted at))
          (omega (arith, mark), none ∙ sym (ap (done_above c.events n s.base_mark) gap));
    }

-- and where each is up in the end, all that was done
pub each_done : (c d : Core) (es fs : List Store) → c.sites ≡ map site_noted (restart_notes es) → All (λ (s : Store). (s.list ≡ []) × (s.mark ≡ s.base_mark)) es
    → Redoes c es d fs → ((n : ℕ) → IsRedoneTo c es n → IsRedoneTo d fs n) → EachIsKnown (at_rest d fs) → EachHasWhatWasDone d.events fs
each_done c d es fs noted new redoes so known n s at =
    let many = redoes.redone.count in
    let short = slice_get-short fs n s at in
    let was = there es n (omega (arith, short, many)) in
    let begun = all_at (λ (x : Store). (x.list ≡ []) × (x.mark ≡ x.base_mark)) es n was.0 was.1 new in
    let done : IsRedoneTo d fs n = so n (begun_done c es n was.0 noted was.1 begun.0 begun.1) in
    let mine : done.s ≡ s = some_same done.s s (sym done.at ∙ at) in
    subst (HasWhatWasDone d.events n) mine (subst (IsDoneTo d.events n done.s) (known n s at).up done.to)
