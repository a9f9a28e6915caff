use Rattle.std.proofs.Common.{◌≡◌, ◌<◌, ◌++◌, ◌∷◌, [], List, length, Some, arith, sym, ◌∙◌, ap, subst}
use Rattle.std.specs.Prelude.{slice_get}
use Rattle.std.proofs.lemmas.Result.{err_from_is_err_and}
use Rattle.access_slots.specs.declared.op.Wire.{Wire}
use Rattle.access_slots.specs.declared.op.Reply.{Reply}
use Rattle.access_slots.specs.declared.slot.Record.{Record}
use Rattle.tc_world.specs.Whole.{Whole}
use Rattle.tc_world.specs.Steps.{MayGo, Goes, dc_of, with_dcs, gets_reply, performs}
use Rattle.tc_world.specs.declared.step.Outcome.TheVariants as outcome
use Rattle.tc_world.proofs.Performing.{performs_found, may_perform}
use Rattle.tc_world.proofs.world.World.perform.Goals as goal

pub returns-in_err-reserve-clause-why : goal.returns-in_err-reserve-clause-why
returns-in_err-reserve-clause-why c =
    let w : Whole = record {
      core = c.self.inside.state;
      dcs = c.self.inside.dcs.items;
      copies = c.self.inside.copies.items;
      replies = c.self.inside.replies.items;
      news = c.self.inside.news.items;
    } in
    let sent : slice_get w.copies c.args.copy ≡ Some c.in-Some.wire = ap (λ (xs : List Wire). slice_get xs c.args.copy)
    (sym c.as_slice.ensures.value) ∙ (sym c.at.ensures ∙ c.in-Some.is) in
    let dc : c.«record».result.now.dc ≡ dc_of c.in-Some.wire = ap (λ (r : Record). r.dc) c.«record».ensures in
    let few : c.«record».result.now.dc < length w.dcs = omega (arith, c.if-dc-len.false, c.len.ensures, c.self.inside.dcs.ok.0) in
    let p = err_from_is_err_and c.from_residual.result c.from_residual.ensures.1 in
    rw (p.1, p.2) (subst (λ (v : Whole). MayGo (performs v c.args.copy)) c.self.view_is
    (may_perform w c.args.copy c.«record».result.now.dc c.in-Some.wire sent dc few))

pub returns-in-Some-perform_at-clause-ok : goal.returns-in-Some-perform_at-clause-ok
returns-in-Some-perform_at-clause-ok c =
    let w : Whole = record {
      core = c.self.inside.state;
      dcs = c.self.inside.dcs.items;
      copies = c.self.inside.copies.items;
      replies = c.self.inside.replies.items;
      news = c.self.inside.news.items;
    } in
    let x = c.in-Some-perform_at.reply in
    let sent : slice_get w.copies c.args.copy ≡ Some c.in-Some.wire = ap (λ (xs : List Wire). slice_get xs c.args.copy)
    (sym c.as_slice.ensures.value) ∙ (sym c.at.ensures ∙ c.in-Some.is) in
    let dc : c.«record».result.now.dc ≡ dc_of c.in-Some.wire = ap (λ (r : Record). r.dc) c.«record».ensures in
    let few : c.«record».result.now.dc < length w.dcs = omega (arith, c.if-dc-len.false, c.len.ensures, c.self.inside.dcs.ok.0) in
    let one = performs_found w c.args.copy c.«record».result.now.dc c.in-Some.wire c.perform_at.new.dcs.items
    c.perform_at.result sent dc few c.perform_at.ensures.reply c.perform_at.ensures.dcs in
    let place : c.len-place.result ≡ length w.replies = c.len-place.ensures ∙ (c.reserve.ensures.len ∙ c.self.inside.replies.ok.0) in
    let replies : c.push_reserved.new.self.items ≡ w.replies ++ x ∷ [] = c.push_reserved.ensures.items
    ∙ ap (λ (xs : List Reply). xs ++ x ∷ []) c.reserve.ensures.items in
    subst (λ (v : Whole). performs v c.args.copy ≡ Goes (outcome.Replied c.len-place.result x)
    (record {
      core = w.core;
      dcs = c.perform_at.new.dcs.items;
      copies = w.copies;
      replies = c.push_reserved.new.self.items;
      news = w.news;
    })) c.self.view_is
    (rw (place, replies) (one ∙ ap (gets_reply (with_dcs w c.perform_at.new.dcs.items)) c.in-Some-perform_at.is))

pub returns-in-None-clause-ok : goal.returns-in-None-clause-ok
returns-in-None-clause-ok c =
    let w : Whole = record {
      core = c.self.inside.state;
      dcs = c.self.inside.dcs.items;
      copies = c.self.inside.copies.items;
      replies = c.self.inside.replies.items;
      news = c.self.inside.news.items;
    } in
    let sent : slice_get w.copies c.args.copy ≡ Some c.in-Some.wire = ap (λ (xs : List Wire). slice_get xs c.args.copy)
    (sym c.as_slice.ensures.value) ∙ (sym c.at.ensures ∙ c.in-Some.is) in
    let dc : c.«record».result.now.dc ≡ dc_of c.in-Some.wire = ap (λ (r : Record). r.dc) c.«record».ensures in
    let few : c.«record».result.now.dc < length w.dcs = omega (arith, c.if-dc-len.false, c.len.ensures, c.self.inside.dcs.ok.0) in
    let one = performs_found w c.args.copy c.«record».result.now.dc c.in-Some.wire c.perform_at.new.dcs.items
    c.perform_at.result sent dc few c.perform_at.ensures.reply c.perform_at.ensures.dcs in
    subst (λ (v : Whole). performs v c.args.copy ≡ Goes outcome.Silent
    (record {
      core = w.core;
      dcs = c.perform_at.new.dcs.items;
      copies = w.copies;
      replies = c.reserve.new.self.items;
      news = w.news;
    })) c.self.view_is
    (rw c.reserve.ensures.items (one ∙ ap (gets_reply (with_dcs w c.perform_at.new.dcs.items)) c.in-None.is))
