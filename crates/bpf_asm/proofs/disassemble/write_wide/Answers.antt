use Rattle.std.proofs.Common.{◌≡◌, List, ◌++◌, ℕ, ap, ◌∙◌}
use Rattle.std.specs.Prelude.{codes, string_bytes}
use Rattle.std.proofs.lemmas.Result.{on_ok_weaker}
use Rattle.std.proofs.lemmas.List.{append_assoc}
use Rattle.bpf_asm.specs.Parts.{hex_text, wide_text}
use Rattle.bpf_asm.proofs.disassemble.write_wide.Goals as goal

behind : (old mid new more : List ℕ) → mid ≡ old ++ codes "0x" → new ≡ mid ++ more → new ≡ old ++ (codes "0x" ++ more)
behind old mid new more a b = b ∙ ap (λ (xs : List ℕ). xs ++ more) a ∙ append_assoc old (codes "0x") more

pub returns : goal.returns
unfolding wide_text
returns c =
    on_ok_weaker c.write_hex.result (λ h. behind (string_bytes c.args.text.now) _ _ (hex_text 16 c.args.value) c.in_ok-push_str.ensures.bytes h) c.write_hex.ensures
