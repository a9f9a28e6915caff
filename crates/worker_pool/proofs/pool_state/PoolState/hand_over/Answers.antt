use Rattle.std.proofs.Common.{◌≡◌, ◌∙◌, ◌++◌, ◌∷◌, [], List, length, reverse, ap, sym, refl}
use Rattle.std.proofs.lemmas.List.{length-reverse}
use Rattle.tc_log.specs.declared.event.Event.{Event}
use Rattle.worker_pool.specs.Joining.Handing.{events_of}
use Rattle.worker_pool.specs.Joining.Seen.{Seen}
use Rattle.worker_pool.proofs.Handing.{handed_over, handed_stands}
use Rattle.worker_pool.proofs.pool_state.PoolState.hand_over.Goals as goal

pub invariant_of-self : goal.invariant_of-self
invariant_of-self g c =
    let first = g.J.RunSpec.start.events in
    let h = c.self.inside.state.events in
    let evs = reverse c.log-log.result.now.events in
    let batch = c.fill.new.self in
    let evs_is : evs ≡ reverse h = ap reverse c.log-log.ensures in
    let after_is : c.add.new.self ≡ c.args.known.now ++ batch ∷ [] =
    c.if-not-add.ensures refl ∙ ap (λ (l : List (List Event)). l ++ batch ∷ []) c.again-handed.ensures in
    let all : h ≡ reverse (events_of c.add.new.self) ++ first =
    handed_over first h evs batch c.self.inside.handed c.args.known.now c.add.new.self c.self.inside.copied c.self.invariant.2
    (c.if-not-is_same.ensures refl) evs_is c.in_ok-fill.ensures after_is in
    let count : c.len-self-inside.result ≡ length evs = c.len-self-inside.ensures ∙ sym (length-reverse c.log-log.result.now.events) in
    (c.self.invariant.0, c.self.invariant.1, rw c.again.ensures (handed_stands first h evs c.add.new.self c.len-self-inside.result all evs_is count))

pub returns-clause-all : goal.returns-clause-all
returns-clause-all g c =
    let first = g.J.RunSpec.start.events in
    let h = c.self.inside.state.events in
    let evs = reverse c.log-log.result.now.events in
    let batch = c.fill.new.self in
    let evs_is : evs ≡ reverse h = ap reverse c.log-log.ensures in
    let after_is : c.add.new.self ≡ c.args.known.now ++ batch ∷ [] =
    c.if-not-add.ensures refl ∙ ap (λ (l : List (List Event)). l ++ batch ∷ []) c.again-handed.ensures in
    let all : h ≡ reverse (events_of c.add.new.self) ++ first =
    handed_over first h evs batch c.self.inside.handed c.args.known.now c.add.new.self c.self.inside.copied c.self.invariant.2
    (c.if-not-is_same.ensures refl) evs_is c.in_ok-fill.ensures after_is in
    sym (ap (λ (v : Seen). v.state.events) c.self.view_is) ∙ all

pub returns-clause-events : goal.returns-clause-events
returns-clause-events g c =
    let first = g.J.RunSpec.start.events in
    let h = c.self.inside.state.events in
    let evs = reverse c.log-log.result.now.events in
    let batch = c.fill.new.self in
    let evs_is : evs ≡ reverse h = ap reverse c.log-log.ensures in
    let after_is : c.add.new.self ≡ c.args.known.now ++ batch ∷ [] =
    c.if-not-add.ensures refl ∙ ap (λ (l : List (List Event)). l ++ batch ∷ []) c.again-handed.ensures in
    let all : h ≡ reverse (events_of c.add.new.self) ++ first =
    handed_over first h evs batch c.self.inside.handed c.args.known.now c.add.new.self c.self.inside.copied c.self.invariant.2
    (c.if-not-is_same.ensures refl) evs_is c.in_ok-fill.ensures after_is in
    let count : c.len-self-inside.result ≡ length evs = c.len-self-inside.ensures ∙ sym (length-reverse c.log-log.result.now.events) in
    (handed_stands first h evs c.add.new.self c.len-self-inside.result all evs_is count).count_is

pub returns-clause-stood : goal.returns-clause-stood
returns-clause-stood g c =
    let first = g.J.RunSpec.start.events in
    let h = c.self.inside.state.events in
    let evs = reverse c.log-log.result.now.events in
    let batch = c.fill.new.self in
    let evs_is : evs ≡ reverse h = ap reverse c.log-log.ensures in
    let after_is : c.add.new.self ≡ c.args.known.now ++ batch ∷ [] =
    c.if-not-add.ensures refl ∙ ap (λ (l : List (List Event)). l ++ batch ∷ []) c.again-handed.ensures in
    let all : h ≡ reverse (events_of c.add.new.self) ++ first =
    handed_over first h evs batch c.self.inside.handed c.args.known.now c.add.new.self c.self.inside.copied c.self.invariant.2
    (c.if-not-is_same.ensures refl) evs_is c.in_ok-fill.ensures after_is in
    record { then = c.args.self.now.state; gone_on = c.known.ensures.goes_on; log = sym (ap (λ (v : Seen). v.state.events) c.self.view_is) ∙ all }
