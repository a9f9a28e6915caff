-- What was handed over stands in the log behind each step. A step is one from a state in which nothing was done for nobody, so that
-- what it keeps of any run says that the log goes on.
use Rattle.std.proofs.Common.{◌≡◌, ℕ, List, [], Option, Some, None, Result, sym, subst}
use Rattle.std.specs.Prelude.{OnOk, OnErr}
use Rattle.tc_log.specs.declared.event.Event.{Event}
use Rattle.tc_log.specs.declared.event.Event.TheVariants.{End}
use Rattle.tc_log.specs.declared.event.Outcome.{Outcome}
use Rattle.access_slots.specs.declared.op.News.{News}
use Rattle.history.specs.Places.{Begins}
use Rattle.tc_core.specs.AtOnce.{HasRunAtOnce}
use Rattle.tc_core.specs.Core.{Core, Asking}
use Rattle.tc_core.specs.Replies.{after_ask, after_undo, after_answer, after_end, with_event}
use Rattle.tc_core.specs.Redo.{after_told, after_redo, after_redone}
use Rattle.tc_core.specs.declared.state.Asked.{Asked}
use Rattle.tc_core.specs.declared.state.NewsFault.{NewsFault}
use Rattle.tc_core.specs.declared.state.Redo.{Redo}
use Rattle.tc_core.specs.declared.state.Stranger.{Stranger}
use Rattle.tc_core.specs.declared.state.RedoMismatch.{RedoMismatch}
use Rattle.worker_pool.specs.Kept.{Keeps}
use Rattle.worker_pool.specs.Joining.Handing.{IsHanded}
use Rattle.worker_pool.proofs.AtOnceLemmas.{keeps_run}
use Rattle.worker_pool.proofs.Placed.{begins_more}
use Rattle.worker_pool.proofs.Steps.{opened, asked, undone, heard}
use Rattle.worker_pool.proofs.Carrying.{redo_logs_nothing, told_logs_nothing, redone_logs_nothing}
use Rattle.worker_pool.proofs.Handing.{begins_self, handed_on}

nothing : (s : Core) → Keeps s [] s []
nothing s = opened s []

module _ (start : Core) (bs : List (List Event)) (n : ℕ) (old : Core) where
  goes_on : (new : Core) → Begins old.events new.events → IsHanded start.events bs n old.events → IsHanded start.events bs n new.events
  goes_on new more it = handed_on start.events old.events new.events bs n more it

  pub handed_more : (e : Event) → IsHanded start.events bs n old.events → IsHanded start.events bs n (with_event old e).events
  handed_more e it = goes_on (with_event old e) (begins_more old.events old.events e (begins_self old.events)) it

  pub handed_asked : (reply : Asked) → IsHanded start.events bs n old.events → IsHanded start.events bs n (after_ask old reply).events
  handed_asked reply it = goes_on (after_ask old reply) (asked old [] old [] reply (nothing old)).begins it

  pub handed_run : (t : ℕ) (now : Core) (reply : Asked) → HasRunAtOnce t old now reply → IsHanded start.events bs n old.events
      → IsHanded start.events bs n now.events
  handed_run t now reply ran it = goes_on now (keeps_run old [] [] t old now reply ran (nothing old)).begins it

  pub handed_undone : (reply : Asked) → IsHanded start.events bs n old.events → IsHanded start.events bs n (after_undo old reply).events
  handed_undone reply it = goes_on (after_undo old reply) (undone old [] old [] reply (nothing old)).begins it

  pub handed_heard : (new : Core) (r : Asking) (said : _) (result : Result Unit Stranger)
      → OnOk result (new ≡ after_answer old r said) → OnErr result (new ≡ old)
      → IsHanded start.events bs n old.events → IsHanded start.events bs n new.events
  handed_heard new r said result ok err it = goes_on new (heard old [] old new [] r said result ok err (nothing old)).begins it

  pub handed_same : (new : Core) → new.events ≡ old.events → IsHanded start.events bs n old.events → IsHanded start.events bs n new.events
  handed_same new same it = subst (λ (h : List Event). IsHanded start.events bs n h) (sym same) it

  pub handed_told : (new : Core) (d : ℕ) (news : News) (result : Result Unit NewsFault)
      → OnOk result (new ≡ after_told old d news) → OnErr result (new ≡ old)
      → IsHanded start.events bs n old.events → IsHanded start.events bs n new.events
  handed_told new d news result ok err it = handed_same new (told_logs_nothing old new d news result ok err) it

  pub handed_redo : (d : ℕ) (reply : Redo) → IsHanded start.events bs n old.events → IsHanded start.events bs n (after_redo old d reply).events
  handed_redo d reply it = handed_same (after_redo old d reply) (redo_logs_nothing old d reply) it

  pub handed_redone : (new : Core) (d m : ℕ) (result : Result Unit RedoMismatch)
      → OnOk result (new ≡ after_redone old d m) → OnErr result (new ≡ old)
      → IsHanded start.events bs n old.events → IsHanded start.events bs n new.events
  handed_redone new d m result ok err it = handed_same new (redone_logs_nothing old new d m result ok err) it

  pub handed_ended : (t : ℕ) (o : Option Outcome) → IsHanded start.events bs n old.events → IsHanded start.events bs n (after_end old t o).events
  handed_ended t None it = it
  handed_ended t (Some o) it = handed_more (End t o) it
