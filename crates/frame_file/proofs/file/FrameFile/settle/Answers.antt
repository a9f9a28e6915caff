use Rattle.std.proofs.Common.{ℕ, List, arith, sym, ◌∙◌, subst}
use Rattle.frame_file.specs.Device.{Only, Cut}
use Rattle.frame_file.specs.Reading.{ReadsAs, payloads_in}
use Rattle.frame_file.proofs.Readings.{cut_reads_as, same_reads_as, cut_done, end_inside, count_payloads}
use Rattle.frame_file.proofs.Moments.{started, goes_on}
use Rattle.frame_file.proofs.file.FrameFile.settle.Goals as goal

pub returns-in_err-cut-clause-any_moment : goal.returns-in_err-cut-clause-any_moment
returns-in_err-cut-clause-any_moment g c =
    let file = g.D.Device.seen c.args.self.now.device in
    let P : List ℕ → Type 0 = ReadsAs file in
    let here : (f : List ℕ) → g.D.Device.may_leave c.args.self.now.device f → P f = λ f now. same_reads_as file f (c.requires.settled f now) in
    let at_start = started g.D.Device.moment g.D.Device.left_since c.args.self.now.device P
    (λ f left. here f (g.met.D.Device.only_now c.args.self.now.device f left)) in
    let after : (f : List ℕ) → g.D.Device.may_leave c.cut.new.self f → P f = λ f now.
    let from = c.cut.ensures.crash f now in
    let was = c.requires.settled from.0 from.1 in
    cut_reads_as file f (payloads_in c.args.found.now.payloads.items) c.args.found.now.end c.requires.found.reads
    c.requires.found.end (subst (λ d. Cut c.args.found.now.end d f) was from.2) in
    let cut = goes_on g.D.Device.moment g.D.Device.left_since c.args.self.now.device c.args.self.now.device
    c.cut.new.self P _ at_start c.cut.ensures.time after in
    cut

pub returns-in_err-sync-clause-any_moment : goal.returns-in_err-sync-clause-any_moment
returns-in_err-sync-clause-any_moment g c =
    let file = g.D.Device.seen c.args.self.now.device in
    let P : List ℕ → Type 0 = ReadsAs file in
    let here : (f : List ℕ) → g.D.Device.may_leave c.args.self.now.device f → P f = λ f now. same_reads_as file f (c.requires.settled f now) in
    let at_start = started g.D.Device.moment g.D.Device.left_since c.args.self.now.device P
    (λ f left. here f (g.met.D.Device.only_now c.args.self.now.device f left)) in
    let after : (f : List ℕ) → g.D.Device.may_leave c.cut.new.self f → P f = λ f now.
    let from = c.cut.ensures.crash f now in
    let was = c.requires.settled from.0 from.1 in
    cut_reads_as file f (payloads_in c.args.found.now.payloads.items) c.args.found.now.end c.requires.found.reads
    c.requires.found.end (subst (λ d. Cut c.args.found.now.end d f) was from.2) in
    let cut = goes_on g.D.Device.moment g.D.Device.left_since c.args.self.now.device c.args.self.now.device
    c.cut.new.self P _ at_start c.cut.ensures.time after in
    goes_on g.D.Device.moment g.D.Device.left_since c.args.self.now.device c.cut.new.self c.sync.new.self P _ cut
    c.sync.ensures.time (λ f now. after f (c.sync.ensures.crash f now))

pub returns-clause-any_moment : goal.returns-clause-any_moment
returns-clause-any_moment g c =
    let file = g.D.Device.seen c.args.self.now.device in
    let P : List ℕ → Type 0 = ReadsAs file in
    let here : (f : List ℕ) → g.D.Device.may_leave c.args.self.now.device f → P f = λ f now. same_reads_as file f (c.requires.settled f now) in
    let at_start = started g.D.Device.moment g.D.Device.left_since c.args.self.now.device P
    (λ f left. here f (g.met.D.Device.only_now c.args.self.now.device f left)) in
    let after : (f : List ℕ) → g.D.Device.may_leave c.cut.new.self f → P f = λ f now.
    let from = c.cut.ensures.crash f now in
    let was = c.requires.settled from.0 from.1 in
    cut_reads_as file f (payloads_in c.args.found.now.payloads.items) c.args.found.now.end c.requires.found.reads
    c.requires.found.end (subst (λ d. Cut c.args.found.now.end d f) was from.2) in
    let cut = goes_on g.D.Device.moment g.D.Device.left_since c.args.self.now.device c.args.self.now.device
    c.cut.new.self P _ at_start c.cut.ensures.time after in
    goes_on g.D.Device.moment g.D.Device.left_since c.args.self.now.device c.cut.new.self c.sync.new.self P _ cut
    c.sync.ensures.time (λ f now. after f (c.sync.ensures.crash f now))

pub cut-requires-clause-inside : goal.cut-requires-clause-inside
cut-requires-clause-inside g c =
    end_inside (g.D.Device.seen c.args.self.now.device) (payloads_in c.args.found.now.payloads.items)
    c.args.found.now.end c.requires.found.reads c.requires.found.end

pub returns-clause-settled : goal.returns-clause-settled
returns-clause-settled g c =
    let file = g.D.Device.seen c.args.self.now.device in
    let found = c.args.found.now in
    let ps = payloads_in found.payloads.items in
    let count = count_payloads found.payloads.items in
    record {
      bytes = c.sync.ensures.seen ∙ (c.in_ok-cut.ensures.cut ∙ cut_done file ps found.end c.requires.found.reads c.requires.found.end);
      count = omega (arith, count);
      fit = c.requires.found.reads.fit;
      durable = subst (λ b. Only b (g.D.Device.may_leave c.sync.new.self)) (sym c.sync.ensures.seen) c.in_ok-sync.ensures.durable;
    }
