use Rattle.std.proofs.Common.{◌≡◌, ℕ, ◌<◌, ◌≤◌, true, List, length, get_or, arith, rules, tests, sym, inl, inr}
use Rattle.std.proofs.Math.ListN.{get_or-eq_default}
use Rattle.std.specs.List.{list_all}
use Rattle.std.specs.Str.{IsAscii}
use Rattle.std.proofs.lemmas.Bool.{cases_lt}
use Rattle.std.proofs.lemmas.Str.{IsUtf8-from_ascii}
use Rattle.std.proofs.lemmas.List.Sums.{AllPass-from_list_all}
use Rattle.std.proofs.lemmas.List.Elements.{All-get_or}
use Rattle.scripts.specs.Names.{is_name_byte, is_name}
use Rattle.scripts.proofs.name.Name.parse.Goals as goal

low_byte : (b : ℕ) → is_name_byte b ≡ true → b < 128
low_byte b h = grind arith

bytes_of_name : (word : List ℕ) → is_name word ≡ true → list_all is_name_byte word ≡ true
bytes_of_name word h = search (rules, tests)

past_end : (word : List ℕ) (i : ℕ) → length word ≤ i → get_or word i 0 < 128
past_end word i past = omega (arith, get_or-eq_default word 0 past)

name_ascii : (word : List ℕ) → is_name word ≡ true → IsAscii word
name_ascii word h i =
    elim (cases_lt i (length word)) [
      | inl inside ↦ low_byte (get_or word i 0) (All-get_or (λ b. is_name_byte b ≡ true) word i 0 inside (AllPass-from_list_all is_name_byte word (bytes_of_name word h)))
      | inr past ↦ past_end word i past
    ]

pub returns-in-Err : goal.returns-in-Err
returns-in-Err c = absurd (c.in-Err.ensures.cases.0 (IsUtf8-from_ascii c.args.word.now (name_ascii c.args.word.now (sym c.if-not-is_name.ensures))))
