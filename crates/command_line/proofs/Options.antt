-- What was read of an option, of a flag and of a command's own arguments.
use Rattle.std.proofs.Common.{◌≡◌, ℕ, Bool, List, Option, Some, None, [], map, option_map, unwrap_or, refl}
use Rattle.std.proofs.Common.{inl, inr, true, false, codes, ◌||◌, ◌∙◌, ap₂}
use Rattle.std.specs.Borrow.{Bor}
use Rattle.command_line.specs.Said.{IsFlag}

pub some_some : {X : Type 0} (x y : X) → Some x ≡ Some y → x ≡ y
some_some x y e = cc

pub none_some : {X : Type 0} (x : X) → None ≡ Some x → ⊥
none_some x e = cc

-- the texts behind an optional list, or none
pub texts_or_none : (o : Option (Bor (List (Bor (List ℕ))))) (d : Bor (List (Bor (List ℕ)))) → d.now ≡ []
    → map (λ s. s.now) (unwrap_or o d).now ≡ unwrap_or (option_map (λ s. map (λ v. v.now) s.now) o) []
texts_or_none None d none = rw none refl
texts_or_none (Some s) d none = refl

-- what the flag was read as
pub flag_is : (o : Option (List ℕ)) (r : Bool) → (o ≡ None → r ≡ false) → (o ≡ Some (codes "true") → r ≡ true)
    → (o ≡ Some (codes "false") → r ≡ false) → (raw : Bool) → IsFlag raw o → r ≡ raw
flag_is o r absent set unset true h = set h
flag_is o r absent set unset false h = elim h [ inl e ↦ absent e | inr e ↦ unset e ]

-- a command with one argument more that isn't global
pub still_local : (new old : Bool) (global : Bool) → new ≡ (old || global) → old ≡ false → global ≡ false → new ≡ false
still_local new old global is a b = is ∙ ap₂ (λ (x y : Bool). x || y) a b
