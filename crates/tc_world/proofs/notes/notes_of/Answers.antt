use Rattle.std.proofs.Common.{◌≡◌, ◌<◌, ◌++◌, ◌∷◌, [], List, length, map, take, arith, sym, ◌∙◌, ap}
use Rattle.transactions.specs.InFlight.{site_at}
use Rattle.tc_core.specs.declared.recovery.SiteNote.{SiteNote}
use Rattle.tc_world.specs.Recovery.{note_of}
use Rattle.tc_world.proofs.ComingBack.{noted_more}
use Rattle.tc_world.proofs.notes.notes_of.Goals as goal

pub loop-dc-preserved : goal.loop-dc-preserved
loop-dc-preserved c =
    let sites = c.args.state.now.sites in
    let inside : c.loop-dc.dc < length sites = omega (arith, c.loop-dc-test.true, c.from-dcs.ensures, c.dcs.ensures, c.known.ensures.sites) in
    let note : c.note_of.result ≡ note_of (site_at sites c.loop-dc.dc) = c.note_of.ensures ∙ ap note_of c.site.ensures in
    c.in_ok-push.ensures.items
    ∙ (ap (λ (xs : List SiteNote). xs ++ c.note_of.result ∷ []) c.loop-dc.invariant
    ∙ (ap (λ (x : SiteNote). map note_of (take c.loop-dc.dc sites) ++ x ∷ []) note ∙ sym (noted_more sites c.loop-dc.dc inside)))
