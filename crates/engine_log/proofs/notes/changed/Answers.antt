use Rattle.std.proofs.Common.{◌≡◌, ◌+◌, ◌<◌, ◌^◌, true, false, length, get_or, sym, ◌∙◌, subst, rules, refl}
use Rattle.std.specs.List.{All}
use Rattle.std.proofs.lemmas.List.Elements.{All-push}
use Rattle.tc_core.specs.declared.recovery.SiteNote.TheVariants.{Untold}
use Rattle.transactions.specs.InFlight.{site_at}
use Rattle.log_file.specs.declared.note.Note.{Note}
use Rattle.log_file.specs.Reading.{AreNotes}
use Rattle.log_file.proofs.BackLemmas.{notes_push}
use Rattle.engine_log.specs.Notes.{known_of}
use Rattle.engine_log.proofs.NoteLemmas.{noted_on, noted_still, noted_all, noted_here}
use Rattle.engine_log.proofs.notes.changed.Goals as goal

pub dcs-preserved : goal.dcs-preserved
dcs-preserved c =
    let sites = c.args.tc.now.sites in
    let noted = c.args.noted.now in
    let known = c.known_of-known.result in
    let n : Note = record { dc = c.dcs.dc; known = known } in
    let items = c.in_ok-push.ensures.items in
    let below : c.dcs.dc < length sites = search rules in
    let same : length noted ≡ length sites = search rules in
    let is : known ≡ known_of (site_at sites c.dcs.dc) = search rules in
    let small : c.dcs.dc < 2 ^ 64 = search rules in
    let there : c.dcs.dc < c.args.tc.now.dcs = search rules in
    record {
      so_far = noted_on c.dcs.dc (c.dcs.dc + 1) sites noted c.dcs.notes.items known below same is refl c.dcs.invariant.so_far c.push.new.self.items
          items;
      numbers = subst AreNotes (sym items) (notes_push c.dcs.notes.items n c.dcs.invariant.numbers (small, c.known_of-known.ensures.numbers));
      there = subst (All (λ (x : Note). x.dc < c.args.tc.now.dcs)) (sym items)
          (All-push (λ (x : Note). x.dc < c.args.tc.now.dcs) c.dcs.notes.items n c.dcs.invariant.there there);
      none = λ all.
          let yes : c.is_same.result ≡ true = c.is_same.ensures.1 (noted_here sites noted c.dcs.dc known Untold below is all) in
          let bad : true ≡ false = sym yes ∙ c.if-is_same.false in
          absurd cc;
    }

pub dcs-preserved-then-is_same : goal.dcs-preserved-then-is_same
dcs-preserved-then-is_same c =
    let sites = c.args.tc.now.sites in
    let noted = c.args.noted.now in
    let known = c.known_of-known.result in
    let below : c.dcs.dc < length sites = search rules in
    let same : length noted ≡ length sites = search rules in
    let is : known ≡ known_of (site_at sites c.dcs.dc) = search rules in
    let here : get_or noted c.dcs.dc known ≡ known = search rules in
    record {
      so_far = noted_still c.dcs.dc (c.dcs.dc + 1) sites noted c.dcs.notes.items known below same is refl c.dcs.invariant.so_far known here;
      numbers = c.dcs.invariant.numbers;
      there = c.dcs.invariant.there;
      none = c.dcs.invariant.none;
    }

pub returns-clause-known : goal.returns-clause-known
returns-clause-known c =
    let sites = c.args.tc.now.sites in
    let end : c.dcs.dc ≡ length sites = search rules in
    let same : length c.args.noted.now ≡ length sites = search rules in
    noted_all sites c.args.noted.now c.dcs.notes.items c.dcs.dc end same c.dcs.invariant.so_far
