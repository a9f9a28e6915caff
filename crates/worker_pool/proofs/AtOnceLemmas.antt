-- Questions that are answered at once: what is kept of the calls is kept on.
use Rattle.std.proofs.Common.{◌≡◌, ◌∙◌, ℕ, List, [], ◌∷◌, ap, refl, sym, subst}
use Rattle.access_slots.specs.declared.op.Reply.{Reply}
use Rattle.transactions.specs.Legal.{Legal}
use Rattle.transactions.specs.Reached.{AllGood}
use Rattle.tc_core.specs.AtOnce.{AreAnswered, HasRunAtOnce, IsAllSent}
use Rattle.tc_core.specs.Core.{Core, Asking}
use Rattle.tc_core.specs.GivingUp.{IsOpenHere}
use Rattle.tc_core.specs.Replies.{after_ask, after_answer}
use Rattle.tc_core.specs.declared.state.Asked.{Asked}
use Rattle.tc_core.specs.declared.state.Asked.TheVariants.{Request, Undoing, Over, Stuck, Waits, Running, Unknown}
use Rattle.tc_core.specs.declared.state.Call.{Call}
use Rattle.worker_pool.specs.Kept.{Keeps}
use Rattle.worker_pool.specs.declared.answer.Progress.{Progress}
use Rattle.worker_pool.specs.Wires.{WasInFlight}
use Rattle.worker_pool.proofs.Carrying.{ask_opens, own_flies}
use Rattle.worker_pool.proofs.Known.{asked_sites}
use Rattle.worker_pool.proofs.Steps.{asked, answered}

keeps_on : (start : Core) (calls : List Call) (ps : List Progress) (t : ℕ) (c then : Core) (xs : List Reply)
    → AreAnswered t c xs then → Keeps start calls c ps → Keeps start calls then ps
keeps_on start calls ps t c then [] it keeps = subst (λ (s : Core). Keeps start calls s ps) (sym it) keeps
keeps_on start calls ps t c then (x ∷ xs) it keeps =
    keeps_on start calls ps t (after_answer (after_ask c (Request it.0)) it.0 x.said) then xs it.3
    (answered start calls (after_ask c (Request it.0)) ps it.0 x.said (asked start calls c ps (Request it.0) keeps))

sites_on : (t : ℕ) (c then : Core) (xs : List Reply) → AreAnswered t c xs then → then.sites ≡ c.sites
sites_on t c then [] it = ap (λ (s : Core). s.sites) it
sites_on t c then (x ∷ xs) it = sites_on t (after_answer (after_ask c (Request it.0)) it.0 x.said) then xs it.3

-- before the last question
pub keeps_then : (start : Core) (calls : List Call) (ps : List Progress) (t : ℕ) (c now : Core) (reply : Asked)
    → (ran : HasRunAtOnce t c now reply) → Keeps start calls c ps → Keeps start calls ran.then ps
keeps_then start calls ps t c now reply ran keeps = keeps_on start calls ps t c ran.then ran.replies ran.answered keeps

-- and behind it
pub keeps_run : (start : Core) (calls : List Call) (ps : List Progress) (t : ℕ) (c now : Core) (reply : Asked)
    → HasRunAtOnce t c now reply → Keeps start calls c ps → Keeps start calls now ps
keeps_run start calls ps t c now reply ran keeps =
    subst (λ (s : Core). Keeps start calls s ps) (sym ran.state)
    (asked start calls ran.then ps reply (keeps_then start calls ps t c now reply ran keeps))

pub run_sites : (t : ℕ) (c now : Core) (reply : Asked) → HasRunAtOnce t c now reply → now.sites ≡ c.sites
run_sites t c now reply ran =
    ap (λ (s : Core). s.sites) ran.state ∙ (asked_sites ran.then reply ∙ sites_on t c ran.then ran.replies ran.answered)

-- what it asks at last is open
pub run_opens : (t : ℕ) (c now : Core) (r : Asking) → HasRunAtOnce t c now (Request r) → IsOpenHere now r
run_opens t c now r ran = subst (λ (s : Core). IsOpenHere s r) (sym ran.state) (ask_opens ran.then t r (sym ran.asks))

-- and what the state makes of it is in flight
pub all_flew : (start : Core) (calls : List Call) (ps : List Progress) (t : ℕ) (c : Core) → Keeps start calls c ps
    → IsAllSent (WasInFlight start) t c
all_flew start calls ps t c keeps = λ now r w ran legal made.
    let kept = keeps_run start calls ps t c now (Request r) ran keeps in
    record {
      state = now;
      of_run = record { goes_on = record { stays = kept.stays; begins = kept.begins; legal = legal }; restarts = kept.restarts };
      flight = own_flies now r w legal (record { is_open = run_opens t c now r ran; made = made });
    }

legal_under : (then : Core) (reply : Asked) → Legal (after_ask then reply).procs (after_ask then reply).events → Legal then.procs then.events
legal_under then (Request r) legal = legal.1
legal_under then Undoing legal = legal
legal_under then Over legal = legal
legal_under then (Stuck n) legal = legal
legal_under then (Waits n) legal = legal
legal_under then Running legal = legal
legal_under then Unknown legal = legal

pub legal_then : (t : ℕ) (c now : Core) (reply : Asked) → (ran : HasRunAtOnce t c now reply) → Legal now.procs now.events
    → Legal ran.then.procs ran.then.events
legal_then t c now reply ran legal =
    legal_under ran.then reply (subst (λ (s : Core). Legal s.procs s.events) ran.state legal)

procs_under : (then : Core) (reply : Asked) → (after_ask then reply).procs ≡ then.procs
procs_under then (Request r) = refl
procs_under then Undoing = refl
procs_under then Over = refl
procs_under then (Stuck n) = refl
procs_under then (Waits n) = refl
procs_under then Running = refl
procs_under then Unknown = refl

pub good_then : (t : ℕ) (c now : Core) (reply : Asked) → (ran : HasRunAtOnce t c now reply) → AllGood now.procs → AllGood ran.then.procs
good_then t c now reply ran good =
    subst AllGood (ap (λ (s : Core). s.procs) ran.state ∙ procs_under ran.then reply) good
