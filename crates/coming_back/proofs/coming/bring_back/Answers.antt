use Rattle.std.proofs.Common.{◌≡◌, ◌∙◌, sym, ap, subst, map, List, []}
use Rattle.tc_log.specs.declared.event.Event.{Event}
use Rattle.data_component.specs.Store.{Store, restarted}
use Rattle.tc_core.specs.Recovery.{recovered}
use Rattle.tc_world.specs.Whole.{Whole}
use Rattle.tc_core.specs.Core.{Core}
use Rattle.tc_world.specs.Lives.{Becomes, HasLived}
use Rattle.coming_back.specs.Faults.{restart_notes}
use Rattle.coming_back.specs.Serving.{AreRedone}
use Rattle.coming_back.specs.Coming.{at_rest, begins_again}
use Rattle.coming_back.specs.Joining.Redoing.{Redoes}
use Rattle.tc_world.proofs.LivingLemmas.{living_agreed, becomes_same, becomes_lived, becomes_sound, sound_serial, sound_agreed}
use Rattle.coming_back.proofs.ComingLemmas.{begun_lived, begun_sound, all_begun, known_redone, has_log, redone_log}
use Rattle.std.specs.List.{All}
use Rattle.coming_back.specs.Done.{EachHasWhatWasDone}
use Rattle.coming_back.proofs.DoneLemmas.{each_done}
use Rattle.coming_back.proofs.FullLemmas.{matched_new}
use Rattle.coming_back.proofs.coming.bring_back.Goals as goal

pub returns-in-Ok-clause-log : goal.returns-in-Ok-clause-log
returns-in-Ok-clause-log c =
    let back = c.begin_again.new in
    let h = c.args.log.now.events in
    redone_log c.args.state.now back.state c.redo_all.new.state h back.dcs c.redo_all.new.dcs
    (has_log c.args.state.now back.state h (restart_notes back.dcs) c.in_ok-begin_again.ensures.ok) c.redo_all.ensures.redoes

pub returns-in-Ok-clause-known : goal.returns-in-Ok-clause-known
returns-in-Ok-clause-known c =
    known_redone c.begin_again.new.state c.redo_all.new.state c.begin_again.new.dcs c.redo_all.new.dcs
    (ap (λ (x : Core). x.sites) c.in_ok-begin_again.ensures.ok) c.redo_all.ensures.redoes c.in-Ok.ensures.up

pub returns-in-Ok-clause-redone : goal.returns-in-Ok-clause-redone
returns-in-Ok-clause-redone c =
    subst (λ (ds : List Store). AreRedone ds c.redo_all.new.dcs) c.begin_again.ensures.dcs c.redo_all.ensures.redoes.redone

-- by redo alone the world that began again has become this one
became : (c d : Core) (ds es : List Store) → Redoes c ds d es → Becomes (at_rest c ds) (at_rest d es)
became c d ds es redoes = redoes.lived (at_rest c ds) (becomes_same (at_rest c ds))

begun : (old : Core) (h : List Event) (ds es : List Store) (c : Core) (v : Whole) → c ≡ recovered old h (restart_notes es) → es ≡ map restarted ds
    → Becomes (at_rest c es) v → Becomes (begins_again old h ds) v
begun old h ds es c v ok dcs b =
    subst (λ (fs : List Store). Becomes (at_rest (recovered old h (restart_notes fs)) fs) v) dcs (subst (λ (x : Core). Becomes (at_rest x es) v) ok b)

pub returns-in-Ok-clause-becomes : goal.returns-in-Ok-clause-becomes
returns-in-Ok-clause-becomes c =
    begun c.args.state.now c.args.log.now.events c.args.dcs.now c.begin_again.new.dcs c.begin_again.new.state (at_rest c.redo_all.new.state c.redo_all.new.dcs)
    c.in_ok-begin_again.ensures.ok c.begin_again.ensures.dcs
    (became c.begin_again.new.state c.redo_all.new.state c.begin_again.new.dcs c.redo_all.new.dcs c.redo_all.ensures.redoes)

pub returns-in-Ok-clause-serial : goal.returns-in-Ok-clause-serial
returns-in-Ok-clause-serial c = λ of_rows.
    sound_serial (at_rest c.redo_all.new.state c.redo_all.new.dcs)
    (becomes_sound (begins_again c.args.state.now c.args.log.now.events c.args.dcs.now)
    (at_rest c.redo_all.new.state c.redo_all.new.dcs) (returns-in-Ok-clause-becomes c)
    (begun_sound c.args.state.now c.args.log.now.events c.args.dcs.now c.known.ensures.good c.in_ok-begin_again.ensures.legal of_rows c.requires))

pub returns-in-Ok-clause-audited : goal.returns-in-Ok-clause-audited
returns-in-Ok-clause-audited c = λ of_rows.
    sound_agreed (at_rest c.redo_all.new.state c.redo_all.new.dcs)
    (becomes_sound (begins_again c.args.state.now c.args.log.now.events c.args.dcs.now)
    (at_rest c.redo_all.new.state c.redo_all.new.dcs) (returns-in-Ok-clause-becomes c)
    (begun_sound c.args.state.now c.args.log.now.events c.args.dcs.now c.known.ensures.good c.in_ok-begin_again.ensures.legal of_rows c.requires))
    (returns-in-Ok-clause-known c)

pub returns-in-Ok-clause-lived : goal.returns-in-Ok-clause-lived
returns-in-Ok-clause-lived c = λ w from.
    becomes_lived (at_rest c.begin_again.new.state c.begin_again.new.dcs) (at_rest c.redo_all.new.state c.redo_all.new.dcs)
    (became c.begin_again.new.state c.redo_all.new.state c.begin_again.new.dcs c.redo_all.new.dcs c.redo_all.ensures.redoes)
    (subst (λ (x : Core). HasLived (at_rest x c.begin_again.new.dcs)) (sym c.in_ok-begin_again.ensures.ok)
    (begun_lived c.args.state.now c.args.log.now.events w c.args.dcs.now c.begin_again.new.dcs from c.requires c.begin_again.ensures.dcs))

pub returns-in-Ok-clause-agreed : goal.returns-in-Ok-clause-agreed
returns-in-Ok-clause-agreed c = λ w from.
    living_agreed (at_rest c.redo_all.new.state c.redo_all.new.dcs) (returns-in-Ok-clause-lived c w from) (returns-in-Ok-clause-known c)

pub returns-in-Err-default-Silent-clause-fault : goal.returns-in-Err-default-Silent-clause-fault
returns-in-Err-default-Silent-clause-fault c =
    let it = c.in-Err-default-Silent in
    let back = c.begin_again.new in
    let ok = c.in_ok-begin_again.ensures.ok in
    let redoes = c.redo_all.ensures.redoes in (
      record {
        log = redone_log c.args.state.now back.state c.redo_all.new.state c.args.log.now.events back.dcs c.redo_all.new.dcs
            (has_log c.args.state.now back.state c.args.log.now.events (restart_notes back.dcs) ok) redoes;
        down = it.ensures.down;
      },
      it.ensures.full it.field-0-1-is
          (matched_new back.state c.redo_all.new.state back.dcs c.redo_all.new.dcs it.dc (ap (λ (x : Core). x.sites) ok) redoes it.ensures.down),
    )

pub returns-in-Ok-clause-done : goal.returns-in-Ok-clause-done
returns-in-Ok-clause-done c =
    let back = c.begin_again.new in
    let ok = c.in_ok-begin_again.ensures.ok in
    let events : c.redo_all.new.state.events ≡ c.args.log.now.events = ap (λ (x : Core). x.events)
    c.redo_all.ensures.redoes.core ∙ ap (λ (x : Core). x.events) ok in
    subst (λ (h : List Event). EachHasWhatWasDone h c.redo_all.new.dcs) events
    (each_done back.state c.redo_all.new.state back.dcs c.redo_all.new.dcs (ap (λ (x : Core). x.sites) ok)
    (subst (All (λ (s : Store). (s.list ≡ []) × (s.mark ≡ s.base_mark))) (sym c.begin_again.ensures.dcs) (all_begun c.args.dcs.now c.requires))
    c.redo_all.ensures.redoes c.in-Ok.ensures.done (returns-in-Ok-clause-known c))
