use Rattle.std.proofs.Common.{rules, ◌≡◌, ◌∙◌, ◌++◌, ap₂, ℕ, List, length}
use Rattle.std.specs.Prelude.{IfOk, string_bytes, codes, decimal}
use Rattle.std.proofs.lemmas.Result.{IfOk-weaker}
use Rattle.log_picture.proofs.drawing.caption_words.Goals as goal

pub returns : goal.returns
returns c =
    let written : IfOk c.format.result (λ s. string_bytes s ≡ string_bytes c.in_ok-shown.shown
    ++ (decimal c.len-transactions.result ++ (codes " transactions in " ++ (decimal c.args.picture.now.lanes ++ codes " lanes"))))
    = search rules in
    let count : c.len-transactions.result ≡ length c.args.picture.now.tracks.items = search rules in
    IfOk-weaker c.format.result _ _
    (λ s is. is ∙ ap₂ (λ (t : List ℕ) (n : ℕ). t ++ (decimal n ++ (codes " transactions in " ++ (decimal c.args.picture.now.lanes ++ codes " lanes"))))
    c.in_ok-shown.ensures count) written
