-- What a world keeps beside a log it keeps beside the same log without its last events, where nothing that was carried rests on these.
use Rattle.std.proofs.Common.{◌≡◌, ℕ, ◌≤◌, ◌<◌, true, false, List, [], ◌∷◌, Option, Some, None, arith, refl, sym, ◌∙◌, ap, subst, inl, inr}
use Rattle.std.specs.Prelude.{slice_get}
use Rattle.std.specs.List.{All}
use Rattle.access_slots.specs.declared.op.Op.{Op}
use Rattle.access_slots.specs.declared.op.Wire.{Wire}
use Rattle.access_slots.specs.declared.op.Reply.{Reply}
use Rattle.access_slots.specs.declared.op.News.{News}
use Rattle.history.specs.Flight.{Flight}
use Rattle.serial.specs.Values.{Table}
use Rattle.data_component.specs.Performed.{Performed}
use Rattle.access_slots.specs.declared.slot.Record.{Record}
use Rattle.data_component.specs.Sorted.{row_of}
use Rattle.data_component.specs.Store.{Store}
use Rattle.transactions.specs.declared.Site.{Site}
use Rattle.transactions.specs.declared.Redoing.{Redoing}
use Rattle.transactions.specs.InFlight.{site_at}
use Rattle.transactions.proofs.StandingLemmas.{some_same, none_some}
use Rattle.serial.specs.Lists.{dc_of, writes_on}
use Rattle.serial.specs.Joining.Behind.{Behind, StandsTo, IsEnd}
use Rattle.serial.specs.Joining.Site.{Over, RedoneTo, SiteOk}
use Rattle.serial.specs.Joining.Sites.{CopyOk, ReplyOk, NewsOk, AreOk}
use Rattle.serial.proofs.SiteLemmas.{redo_cases, stands_up, stands_less}
use Rattle.serial.proofs.CutLemmas.{up_to, under_cut, cut_all, all_below, end_cut}
use Rattle.serial.proofs.BackLemmas.{Earlier}

-- the redo that was noted of data component d, where t is known of it: it begins anew, above the same mark; or that it was over wasn't noted
pub record IsBegun (most d : ℕ) (dcs : List Store) (t : Site) (r' : Redoing) : Type 0 where
  pub anew : r'.redone ≡ r'.mark
  pub low : r'.mark ≤ most
  pub stands : (r : Redoing) → t.redo ≡ Some r → r'.mark ≡ r.mark
  pub there : t.redo ≡ None → (s : Store) × (slice_get dcs d ≡ Some s)

-- t' was noted of data component d where t is known of it; that its redo was over was noted before any ordinary wire was sent behind it
pub record IsNotedOf (low d : ℕ) (dcs : List Store) (copies : List Wire) (t t' : Site) : Type 0 where
  pub same : t'.incarnation ≡ t.incarnation
  pub up : t'.redo ≡ None → t.redo ≡ None
  pub down : (r' : Redoing) → t'.redo ≡ Some r' → IsBegun low d dcs t r'
  pub ordinary : All (λ (x : Wire). dc_of x.op ≡ d → x.incarnation ≡ t.incarnation → x.redo ≡ false → t.redo ≡ None → t'.redo ≡ None) copies

-- what a wire rests on: its number, its mark, and, where it redoes, the answer to its number
abbrev pub RestsOn : (ℕ → Option Flight) → ℕ → ℕ → Wire → Type 0
RestsOn fl top low x = (x.number ≤ top) × (x.low_water ≤ low) × (x.redo ≡ true → fl x.number ≡ None)

-- a data component's list has no later numbers, and its marks are low
pub record IsUpTo (top low : ℕ) (s : Store) : Type 0 where
  pub list : (k : ℕ) (e : Performed) → slice_get s.list k ≡ Some e → e.0 ≤ top
  pub mark : s.mark ≤ low
  pub saved : s.saved_mark ≤ low

pub over_less : (fl : ℕ → Option Flight) (top low p : ℕ) → Over fl top low → p ≤ low → Over fl top p
over_less fl top low p x le =
    let l = x.given_out in
    record { given_out = omega (arith, l, le); answered = λ m less. x.answered m (omega (arith, less, le)) }

module _ (base : Table) (lg : ℕ → Option Op) (fl : ℕ → Option Flight) (dn : List Performed) (top : ℕ) (lg' : ℕ
    → Option Op) (fl' : ℕ → Option Flight) (dn' : List Performed) (top' low : ℕ) where
  stands_back : Earlier base lg fl dn top lg' fl' dn' top' → (d p : ℕ) (list : List Performed) → StandsTo lg dn d p list → StandsTo lg' dn' d p list
  stands_back e d p list to n o said logs dc was did le = to n o said (e.logs_on n o logs) dc (e.says_on n said was) did le

  stands_cut : Earlier base lg fl dn top lg' fl' dn' top' → (d p : ℕ) (v : List Performed) → StandsTo lg dn d p v → StandsTo lg' dn' d p (up_to top' v)
  stands_cut e d p v to n o said logs dc was did le = under_cut top' n v (e.below n o logs) ∙ to n o said (e.logs_on n o logs) dc (e.says_on n said was) did le

  site_back : Earlier base lg fl dn top lg' fl' dn' top' → Over fl' top' low
      → (d : ℕ) (dcs : List Store) (copies : List Wire) (s : Store) (t t' : Site) (v : List Performed)
      → IsNotedOf low d dcs copies t t' → IsUpTo top' low s
      → SiteOk base lg fl dn top d s t v → SiteOk base lg' fl' dn' top' d s t' (up_to top' v)
  site_back e over d dcs copies s t t' v noted few k =
      record {
        up = λ is. e.beside d v (k.up (noted.up is));
        behind = e.behind d v k.behind;
        down = λ r' is.
            let begun = noted.down r' is in
            let anew = begun.anew in
            record {
              stands = stands_cut e d r'.redone v (redo_cases t.redo (StandsTo lg dn d r'.redone v)
                  (λ isup. stands_up base lg fl dn d r'.redone v (k.up isup))
                  (λ r isdown.
                  let was = k.down r isdown in
                  let told = was.told_le in
                  let mark = begun.stands r isdown in
                  stands_less lg dn d r'.redone r.redone v (omega (arith, anew, told, mark)) was.stands));
              told_le = omega (arith, anew);
              told_over = over_less fl' top' low r'.mark over begun.low;
            };
        ahead = λ less. (let u = k.ahead (subst (λ (n : ℕ). s.incarnation < n) noted.same less) in
            record { known = ap (up_to top') u.known; now = u.now; kept = u.kept });
        same = λ is. sym whole ∙ ap (up_to top') (k.same (sym noted.same ∙ is));
        idle = λ less. k.idle (subst (λ (n : ℕ). n < s.incarnation) noted.same less);
        cut = subst (IsEnd (up_to top' v)) whole (end_cut top' v s.list k.cut);
        based = k.based;
        saved_cut = k.saved_cut;
        whole = λ never n o said logs dc was. k.whole never n o said (e.logs_on n o logs) dc (e.says_on n said was);
        mark_to = stands_back e d s.mark s.list k.mark_to;
        mark_over = over_less fl' top' low s.mark over few.mark;
        saved_to = stands_back e d s.saved_mark s.saved k.saved_to;
        saved_over = over_less fl' top' low s.saved_mark over few.saved;
      }
    where
      whole : up_to top' s.list ≡ s.list
      whole = cut_all top' s.list (all_below top' s.list few.list)

  pub ok_back : (sites sites' : List Site) (dcs : List Store) (copies : List Wire) (replies : List Reply) (news : List (ℕ × News))
      → Earlier base lg fl dn top lg' fl' dn' top' → Over fl' top' low
      → ((d : ℕ) → IsNotedOf low d dcs copies (site_at sites d) (site_at sites' d))
      → ((d : ℕ) (s : Store) → slice_get dcs d ≡ Some s → IsUpTo top' low s)
      → All (RestsOn fl' top' low) copies → All (λ (x : Reply). x.number ≤ top') replies → All (λ (x : ℕ × News). x.1.mark ≤ low) news
      → AreOk base lg fl dn top sites dcs copies replies news → AreOk base lg' fl' dn' top' sites' dcs copies replies news
  ok_back sites sites' dcs copies replies news e over noted few rests given_out low_news k =
      record {
        v = λ d. up_to top' (k.v d);
        copies = λ i x inside. copy _ (λ d. (noted d).ordinary i x inside) (rests i x inside) (k.copies i x inside);
        replies = λ i x inside. reply _ (given_out i x inside) (k.replies i x inside);
        news = λ i x inside. told _ (low_news i x inside) (k.news i x inside);
        stores = λ d s at. site_back e over d dcs copies s (site_at sites d) (site_at sites' d) (k.v d) (noted d) (few d s at) (k.stores d s at);
        said = λ n o said logs was. k.said n o said (e.logs_on n o logs) (e.says_on n said was);
        there = λ d r' down.
            let begun = (noted d).down r' down in
            redo_cases (site_at sites d).redo ((s : Store) × (slice_get dcs d ≡ Some s)) (λ isup. begun.there isup) (λ r isdown. k.there d r isdown);
      }
    where
      copy : (x : Wire) → ((d : ℕ) → dc_of x.op ≡ d → x.incarnation ≡ (site_at sites d).incarnation → x.redo ≡ false
          → (site_at sites d).redo ≡ None → (site_at sites' d).redo ≡ None) → RestsOn fl' top' low x
          → CopyOk base lg fl dn top sites dcs k.v x → CopyOk base lg' fl' dn' top' sites' dcs (λ d. up_to top' (k.v d)) x
      copy x ordinary rest y =
          let t = noted (dc_of x.op) in
          record {
            logs = e.logs_back x.number x.op y.logs rest.0;
            known = subst (λ (n : ℕ). x.incarnation ≤ n) (sym t.same) y.known;
            ahead = λ z is less. y.ahead z is (subst (λ (n : ℕ). z.incarnation < n) t.same less) ∙ sym t.same;
            over = over_less fl' top' low x.low_water over rest.1;
            now = λ is. elim (y.now (is ∙ t.same)) [
              | inl first ↦ inl (record {
                ordinary = first.ordinary;
                up = ordinary (dc_of x.op) refl (is ∙ t.same) first.ordinary first.up;
                runs = elim first.runs [
                  | inl f ↦ inl (f.0, e.flies_back x.number f.0 f.1 rest.0)
                  | inr said ↦ inr (said.0, under_cut top' x.number (k.v (dc_of x.op)) rest.0 ∙ said.1)
                ];
              })
              | inr again ↦ inr (record {
                redo = again.redo;
                dc = again.dc;
                said = again.said;
                was = e.says_back x.number again.said again.was rest.0 (rest.2 again.redo);
                did = again.did;
                p = again.p;
                next = again.next;
                before = stands_cut e (dc_of x.op) again.p (k.v (dc_of x.op)) again.before;
                low = stands_cut e (dc_of x.op) x.low_water (k.v (dc_of x.op)) again.low;
              })
            ];
          }

      reply : (x : Reply) → x.number ≤ top' → ReplyOk lg sites dcs k.v x → ReplyOk lg' sites' dcs (λ d. up_to top' (k.v d)) x
      reply x low y =
          let t = noted (dc_of y.o) in
          record {
            o = y.o;
            logs = e.logs_back x.number y.o y.logs low;
            s = y.s;
            at = y.at;
            known = subst (λ (n : ℕ). x.incarnation ≤ n) (sym t.same) y.known;
            now = λ is. elim (y.now (is ∙ t.same)) [ inl old ↦ inl old | inr under ↦ inr (under_cut top' x.number (k.v (dc_of y.o)) low ∙ under) ];
          }

      told : (x : ℕ × News) → x.1.mark ≤ low → NewsOk base lg fl dn top sites dcs x → NewsOk base lg' fl' dn' top' sites' dcs x
      told x le y = record {
        s = y.s;
        at = y.at;
        over = over_less fl' top' low x.1.mark over le;
        made = y.made;
        later = λ less. stands_back e x.0 x.1.mark y.s.list (y.later (subst (λ (n : ℕ). n < x.1.incarnation) (noted x.0).same less));
      }

-- ---- a new data component, which is told to have restarted

end_none : (big : List Performed) → IsEnd big []
end_none [] = refl
end_none (x ∷ big) = inr (end_none big)

behind_none : (base : Table) (lg : ℕ → Option Op) (fl : ℕ → Option Flight) (dn : List Performed) (d : ℕ) → Behind base lg fl dn d []
behind_none base lg fl dn d = record {
  entries = λ k e is. absurd (none_some _ e refl is);
  once = tt;
  agrees = λ n o s said is dc under was. absurd (none_some _ s refl under);
  honest = λ n f said is under. absurd (none_some _ said refl under);
  oldest = λ r dc none. end_none (writes_on r dn);
  ahead = λ r n f said dc is under same did. absurd (none_some _ said refl under);
}

-- all that was done has a number above p
stands_none : (lg : ℕ → Option Op) (dn : List Performed) (d : ℕ) (list : List Performed) (b : ℕ) → ((n : ℕ) (o : Op) → lg n ≡ Some o → b < n)
    → (p : ℕ) → p ≡ b → StandsTo lg dn d p list
stands_none lg dn d list b above p is n o said logs dc was did low = (let some = above n o logs in absurd (omega (arith, some, is, low)))

-- its marks are b, and all numbers of the log are above that
pub site_new : (base : Table) (lg : ℕ → Option Op) (fl : ℕ → Option Flight) (dn : List Performed) (top d : ℕ) (s : Store) (b : ℕ)
    → ((n : ℕ) (o : Op) → lg n ≡ Some o → b < n) → Over fl top b → ((r : Record) → r.dc ≡ d → row_of s.base r ≡ base r)
    → s.list ≡ [] → s.saved ≡ [] → s.mark ≡ b → s.saved_mark ≡ b → 0 < s.incarnation
    → SiteOk base lg fl dn top d s (record { incarnation = s.incarnation; redo = Some (record { mark = s.mark; redone = s.mark }) }) []
site_new base lg fl dn top d s b above over based list saved mark saved_mark restarted =
    let at : Redoing = record { mark = s.mark; redone = s.mark } in
    let over_at : (p : ℕ) → p ≡ b → Over fl top p = (λ p is. over_less fl top b p over (omega (arith, is))) in
    record {
      up = λ is. absurd (none_some _ at is refl);
      behind = behind_none base lg fl dn d;
      down = λ r is.
          subst (RedoneTo base lg fl dn top d []) (some_same at r is)
          (record { stands = stands_none lg dn d [] b above s.mark mark; told_le = omega arith; told_over = over_at s.mark mark });
      ahead = λ less. absurd (omega (arith, less));
      same = λ is. list;
      idle = λ less. absurd (omega (arith, less));
      cut = list;
      based = based;
      saved_cut = subst (λ (l : List Performed). IsEnd l s.saved) (sym list) saved;
      whole = λ never. absurd (omega (arith, never, restarted));
      mark_to = stands_none lg dn d s.list b above s.mark mark;
      mark_over = over_at s.mark mark;
      saved_to = stands_none lg dn d s.saved b above s.saved_mark saved_mark;
      saved_over = over_at s.saved_mark saved_mark;
    }
