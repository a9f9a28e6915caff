use Rattle.std.proofs.Common.{◌≡◌, ℕ, ◌<◌, ◌^◌, List, take, drop, length, sym, ◌∙◌, ap₂, subst, arith, rules}
use Rattle.std.proofs.lemmas.Bool.{eqb-false}
use Rattle.std.proofs.lemmas.List.{take_rest, drop-drop}
use Rattle.frame_file.specs.Frame.{hashed, measured, NoneStands, MayStand}
use Rattle.frame_file.specs.Reading.{IsClaim}
use Rattle.frame_file.proofs.Blocks.{bytes_drop}
use Rattle.frame_file.proofs.Ends.{within}
use Rattle.frame_file.proofs.Heads.{is_frame, none_summed, part_behind}
use Rattle.frame_file.proofs.Readings.{frame_in}
use Rattle.frame_file.proofs.reading.stands_at.Goals as goal

pub returns-in_default-clause-none : goal.returns-in_default-clause-none
returns-in_default-clause-none c = let h = c.in_default.ensures.none in λ no. subst (NoneStands c.args.first) (take_rest c.args.bytes.now c.args.place) h

pub returns-clause-frame : goal.returns-clause-frame
returns-clause-frame c =
    let bytes = c.args.bytes.now in
    let here : List ℕ = drop c.args.place bytes in
    let claim = c.in-Some.claim in
    let is : IsClaim c.args.first here claim = subst (λ (b : List ℕ). IsClaim c.args.first b claim) (take_rest bytes c.args.place) c.in-Some.ensures.some in
    let payload : List ℕ = take claim.size (drop 24 here) in
    let short : length payload < 2 ^ 64 = omega (arith, is.0.short, within claim.size (drop 24 here)) in
    let may : MayStand c.args.first claim.number (drop claim.size (drop 24 here))
    = subst (MayStand c.args.first claim.number) (sym (drop-drop claim.size 24 here)) is.1 in
    let sum : c.in_ok-sum.sum ≡ hashed (measured claim.number claim.size) payload
    = c.in_ok-sum.ensures.sum
    ∙ ap₂ hashed c.measured.ensures (part_behind c.args.place claim.size bytes) in
    λ yes.
    let same : c.in_ok-sum.sum ≡ claim.said = search (rules, yes) in
    frame_in c.args.first c.args.place claim.number bytes payload (drop claim.size (drop 24 here)) may is.0.small short
    (is_frame claim.number claim.size claim.said here is.0 (bytes_drop c.args.place bytes (λ i. omega (arith, c.type_inv.bytes i))) (sym same ∙ sum))

pub returns-clause-none : goal.returns-clause-none
returns-clause-none c =
    let bytes = c.args.bytes.now in
    let here : List ℕ = drop c.args.place bytes in
    let claim = c.in-Some.claim in
    let is : IsClaim c.args.first here claim = subst (λ (b : List ℕ). IsClaim c.args.first b claim) (take_rest bytes c.args.place) c.in-Some.ensures.some in
    let sum : c.in_ok-sum.sum ≡ hashed (measured claim.number claim.size) (take claim.size (drop 24 here))
    = c.in_ok-sum.ensures.sum
    ∙ ap₂ hashed c.measured.ensures (part_behind c.args.place claim.size bytes) in
    λ no. none_summed claim.number claim.size claim.said here is.0 c.args.first
    (λ right. eqb-false c.in_ok-sum.sum claim.said no (sum ∙ sym right))
