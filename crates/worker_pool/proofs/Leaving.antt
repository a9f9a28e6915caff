-- What a crash leaves of the journal of a run.
use Rattle.std.proofs.Common.{◌≡◌, ◌∙◌, ◌++◌, ◌∷◌, [], ℕ, List, reverse, refl, sym, ap, subst, inl, inr, ⊎_elim, arith, append-nil}
use Rattle.tc_log.specs.declared.event.Event.{Event}
use Rattle.tc_core.specs.Core.{Core}
use Rattle.frame_file.specs.Device.{LeavesOnly}
use Rattle.worker_pool.specs.Journals.{HasGoneOn, IsLeftOfRun}
use Rattle.worker_pool.specs.Joining.Handing.{events_of}
use Rattle.worker_pool.specs.Joining.Leaving.{HasStood, LeavesBehind}
use Rattle.worker_pool.proofs.Handing.{events_of_more}

module _ {K : Type 0} (moment : K → ℕ) (left_since : K → ℕ → List ℕ → Type 0) (start : Core) (since : ℕ) (past : ℕ → List ℕ → Type 0)
    (leaves : List Event → List Event → List ℕ → Type 0) where
  -- these batches were kept, and one more was being kept
  left_of_run : (before : List Event) (batches after : List (List Event)) (batch : List Event) (left : List ℕ) → HasStood start after
      → after ≡ batches ++ batch ∷ [] → leaves (before ++ events_of batches) batch left → IsLeftOfRun leaves before start left
  left_of_run before batches after batch left stood is it = record {
    kept = events_of batches;
    more = batch;
    then = stood.then;
    gone_on = stood.gone_on;
    log = record {
      later = [];
      is = stood.log ∙ ap (λ (l : List Event). reverse l ++ start.events) (ap events_of is ∙ events_of_more batches batch);
    };
    is_left = it;
  }

  pub leaves_more : (before : List Event) (was now : K) (batches after : List (List Event)) (batch : List Event) (Q : List ℕ → Type 0)
      → LeavesBehind moment left_since start since past leaves before was → HasStood start after → after ≡ batches ++ batch ∷ []
      → LeavesOnly moment left_since was now Q → ((left : List ℕ) → Q left → leaves (before ++ events_of batches) batch left)
      → LeavesBehind moment left_since start since past leaves before now
  leaves_more before was now batches after batch Q so_far stood is run each =
      let it : (left : List ℕ) → Q left → IsLeftOfRun leaves before start left =
      λ left q. left_of_run before batches after batch left stood is (each left q) in
      record {
        later = omega (arith, so_far.later, run.later);
        each = λ left l. ⊎_elim (so_far.each left) (it left) (run.before since left so_far.later l);
        earlier = λ t left le l. ⊎_elim (so_far.earlier t left le) (λ q. inr (it left q)) (run.before t left (omega (arith, le, so_far.later)) l);
      }

  -- before anything is kept
  first_left : (before : List Event) (left : List ℕ) → HasGoneOn start start → leaves before [] left → IsLeftOfRun leaves before start left
  first_left before left gone_on it = record {
    kept = [];
    more = [];
    then = start;
    gone_on = gone_on;
    log = record { later = []; is = refl };
    is_left = subst (λ (l : List Event). leaves l [] left) (sym (append-nil before)) it;
  }

  pub leaves_first : (before : List Event) (journal : K) → since ≡ moment journal → HasGoneOn start start
      → ((t : ℕ) (left : List ℕ) → left_since journal t left → past t left)
      → ((left : List ℕ) → left_since journal since left → leaves before [] left)
      → LeavesBehind moment left_since start since past leaves before journal
  leaves_first before journal same gone_on was now = record {
    later = omega (arith, same);
    each = λ left l. first_left before left gone_on (now left l);
    earlier = λ t left le l. inl (was t left l);
  }

  -- in the end
  pub leaves_only : (before : List Event) (old now : K) → since ≡ moment old → ((t : ℕ) (left : List ℕ) → past t left → left_since old t left)
      → LeavesBehind moment left_since start since past leaves before now
      → LeavesOnly moment left_since old now (IsLeftOfRun leaves before start)
  leaves_only before old now same only x = record {
    later = omega (arith, same, x.later);
    each = λ left l. x.each left (subst (λ (n : ℕ). left_since now n left) (sym same) l);
    before = λ t left le l. ⊎_elim (λ p. inl (only t left p)) (λ q. inr q) (x.earlier t left (omega (arith, le, same)) l);
  }
