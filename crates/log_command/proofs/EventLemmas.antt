-- Lines one behind another.
use Rattle.std.proofs.Common.{arith, ◌≡◌, ℕ, suc, ◌+◌, List, [], ◌∷◌, ◌++◌, length, take, refl, sym, ◌∙◌, ap, ap₂, append_assoc, add-zero}
use Rattle.std.proofs.lemmas.List.{append-nil, take_more, length-take-le}
use Rattle.std.proofs.lemmas.Option.{get_or_from_slice_get, slice_get_within}
use Rattle.std.specs.Prelude.{codes, decimal, slice_get, Some}
use Rattle.tc_log.specs.declared.event.Event.{Event}
use Rattle.tc_log.specs.declared.event.Event.TheVariants.{Admit}
use Rattle.log_command.specs.EventLines.{arguments_text, event_line, event_lines}

further : (place n : ℕ) → place + 1 + n ≡ place + suc n
further place n = omega arith

pub event_lines-append : (place : ℕ) (xs ys : List Event) → event_lines place (xs ++ ys) ≡ event_lines place xs ++ event_lines (place + length xs) ys
event_lines-append place [] ys = ap (λ (n : ℕ). event_lines n ys) (sym (add-zero place))
event_lines-append place (x ∷ xs) ys =
    ap (λ (l : List ℕ). event_line place x ++ l)
    (event_lines-append (place + 1) xs ys ∙ ap (λ (n : ℕ). event_lines (place + 1) xs ++ event_lines n ys) (further place (length xs)))
    ∙ sym (append_assoc (event_line place x) (event_lines (place + 1) xs) (event_lines (place + suc (length xs)) ys))

-- the lines of one event more
one_more : (first : ℕ) (events : List Event) (place : ℕ) (e : Event) → slice_get events place ≡ Some e
    → event_lines first (take (place + 1) events) ≡ event_lines first (take place events) ++ event_line (first + place) e
one_more first events place e at =
    let front = take place events in
    let inside = slice_get_within events place e at in
    let split : take (place + 1) events ≡ front ++ e ∷ []
    = take_more events place e inside ∙ ap (λ (x : Event). take place events ++ x ∷ []) (get_or_from_slice_get events place e e at) in
    let there : first + length front ≡ first + place = omega (arith, length-take-le place events (omega (arith, inside))) in
    ap (event_lines first) split
    ∙ (event_lines-append first front (e ∷ [])
    ∙ ap (λ (n : ℕ). event_lines first (take place events) ++ (event_line n e ++ [])) there
    ∙ ap (λ (l : List ℕ). event_lines first (take place events) ++ l) (append-nil (event_line (first + place) e)))

pub lines_more : (first : ℕ) (events : List Event) (place : ℕ) (e : Event) (old all new line : List ℕ) → slice_get events place ≡ Some e
    → all ≡ old ++ event_lines first (take place events) → line ≡ event_line (first + place) e → new ≡ all ++ line
    → new ≡ old ++ event_lines first (take (place + 1) events)
lines_more first events place e old all new line at so_far is grown =
    let lines = event_lines first (take place events) in
    grown
    ∙ (ap₂ (λ (x y : List ℕ). x ++ y) so_far is
    ∙ (append_assoc old lines (event_line (first + place) e) ∙ ap (λ (l : List ℕ). old ++ l) (sym (one_more first events place e at))))

abbrev pub admit_text : ℕ → ℕ → ℕ → List ℕ → List ℕ
admit_text place t p args =
    decimal place ++ (codes " admit " ++ (decimal t ++ (codes " procedure " ++ (decimal p ++ (args ++ codes "\n")))))

pub admit_is : (place t p : ℕ) (args : List ℕ) (event : Event) (text line : List ℕ) → event ≡ Admit t p args → text ≡ arguments_text args
    → line ≡ admit_text place t p text → line ≡ event_line place event
admit_is place t p args event text line is text_is line_is =
    line_is ∙ (ap (admit_text place t p) text_is ∙ ap (event_line place) (sym is))
