use Rattle.std.proofs.Common.{◌≡◌, ◌∙◌, ◌++◌, ◌∷◌, [], List, reverse, None, ap, sym, refl, subst, inl}
use Rattle.tc_log.specs.declared.event.Event.{Event}
use Rattle.worker_pool.specs.Joining.Handing.{Shelf, events_of}
use Rattle.worker_pool.proofs.Handing.{kept_more}
use Rattle.worker_pool.proofs.Leaving.{leaves_more}
use Rattle.worker_pool.proofs.group_commit.GroupCommit.write.Goals as goal

pub invariant_of-self : goal.invariant_of-self
invariant_of-self g c =
    let sound : c.self.inside.fault ≡ None = ap (λ (v : Shelf _). v.fault) c.self.view_is ∙ c.requires.sound in
    let batch = reverse c.log.result.now.events in
    let before = c.self.inside.handed in
    let journal = c.self.inside.journal in
    let leaves = g.K.Journal.leaves in
    let handed : c.args.handed ≡ before ++ batch ∷ [] =
    c.requires.handed ∙ (sym (ap (λ (v : Shelf _). v.handed ++ v.batch ∷ []) c.self.view_is) ∙ ap (λ (b : List Event). before ++ b ∷ []) (sym c.log.ensures)) in
    let all = (c.self.invariant.1 sound).0 in
    let kept = kept_more g.K.Journal.has_kept g.J.RunSpec.before journal c.keep.new.self batch before c.args.handed all c.in-Ok.ensures.kept handed in (
      c.self.invariant.0,
      (λ _. (kept, c.requires.events)),
      c.self.invariant.2,
      (λ events was.
          leaves_more g.K.Journal.moment g.K.Journal.left_since g.J.RunSpec.start g.J.RunSpec.since g.J.RunSpec.past g.J.RunSpec.leaves events
          journal c.keep.new.self before c.args.handed batch (leaves journal (events ++ events_of before) batch) (c.self.invariant.3 events was)
          c.requires.stood handed (c.in-Ok.ensures.any_moment (events ++ events_of before) (all events was))
          (c.self.invariant.4 (events ++ events_of before) batch)),
      (λ events more left it. c.self.invariant.4 events more left (c.in-Ok.ensures.same events more left it)),
      (λ why is. absurd (cc (sound, is))),
      c.in-Ok.ensures.goes_on ∙ c.self.invariant.6,
    )

pub invariant_of-self-in-Err-1 : goal.invariant_of-self-in-Err-1
invariant_of-self-in-Err-1 g c =
    let sound : c.self.inside.fault ≡ None = ap (λ (v : Shelf _). v.fault) c.self.view_is ∙ c.requires.sound in
    let batch = reverse c.log.result.now.events in
    let before = c.self.inside.handed in
    let journal = c.self.inside.journal in
    let leaves = g.K.Journal.leaves in
    let handed : c.args.handed ≡ before ++ batch ∷ [] =
    c.requires.handed ∙ (sym (ap (λ (v : Shelf _). v.handed ++ v.batch ∷ []) c.self.view_is) ∙ ap (λ (b : List Event). before ++ b ∷ []) (sym c.log.ensures)) in
    let all = (c.self.invariant.1 sound).0 in (
      c.self.invariant.0,
      (λ fault. absurd (cc fault)),
      c.self.invariant.2,
      (λ events was.
          leaves_more g.K.Journal.moment g.K.Journal.left_since g.J.RunSpec.start g.J.RunSpec.since g.J.RunSpec.past g.J.RunSpec.leaves events
          journal c.keep.new.self before c.args.handed batch (leaves journal (events ++ events_of before) batch) (c.self.invariant.3 events was)
          c.requires.stood handed (c.in-Err.ensures.any_moment (events ++ events_of before) (all events was))
          (c.self.invariant.4 (events ++ events_of before) batch)),
      (λ events more left it. c.self.invariant.4 events more left (c.in-Err.ensures.same events more left it)),
      (λ why is. inl (
        journal,
        (let same : c.in-Err.fault ≡ why = cc is in subst
            (λ w. g.K.Journal.fails journal w c.keep.new.self) same c.in-Err.ensures.failed),
      )),
      c.in-Err.ensures.goes_on ∙ c.self.invariant.6,
    )

pub returns-in-Ok-clause-all : goal.returns-in-Ok-clause-all
returns-in-Ok-clause-all g c =
    let sound : c.self.inside.fault ≡ None = ap (λ (v : Shelf _). v.fault) c.self.view_is ∙ c.requires.sound in
    let handed : c.args.handed ≡ c.self.inside.handed ++ reverse c.log.result.now.events ∷ [] =
    c.requires.handed ∙ (sym (ap (λ (v : Shelf _). v.handed ++ v.batch ∷ []) c.self.view_is)
    ∙ ap (λ (b : List Event). c.self.inside.handed ++ b ∷ []) (sym c.log.ensures)) in (
      refl,
      kept_more g.K.Journal.has_kept g.J.RunSpec.before c.self.inside.journal c.keep.new.self
          (reverse c.log.result.now.events) c.self.inside.handed c.args.handed
          ((c.self.invariant.1 sound).0) c.in-Ok.ensures.kept handed,
    )

pub returns-in-Err-clause-unkept : goal.returns-in-Err-clause-unkept
returns-in-Err-clause-unkept g c = inl (c.self.inside.journal, c.in-Err.ensures.failed)
