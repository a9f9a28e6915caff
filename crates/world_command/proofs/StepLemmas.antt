-- One step more.
use Rattle.std.proofs.Common.{◌≡◌, ℕ, Bool, true, false, ◌&&◌, List, [], ◌∷◌, ◌++◌, refl, sym, ◌∙◌, ap, subst}
use Rattle.std.specs.Prelude.{is_ok, Ok, Err, IfOk, OnErr, IfErr}
use Rattle.std.proofs.lemmas.List.{append-nil, append_assoc}
use Rattle.scripts.specs.declared.script.Step.{Step as ScriptStep}
use Rattle.tc_world.specs.Whole.{Whole}
use Rattle.tc_world.specs.Steps.{Steps, IsIllegal}
use Rattle.tc_world.specs.declared.step.Step.{Step}
use Rattle.world_command.specs.OutcomeLines.{step_line}
use Rattle.world_command.specs.Stepping.{Told, Answers, AnswersLine, Takes, step_lines, all_possible, AreTaken}

pub answered : (w : Whole) (s : Step) (told : Told) (v : Whole) → IfOk told (λ o. Steps w s o v) → OnErr told (v ≡ w)
    → IfErr told (λ i. IsIllegal w s i) → Answers w s told v
answered w s (Ok o) v ok err why = ok
answered w s (Err i) v ok err why = (err, why)

takes_push : (w mid v : Whole) (xs : List ScriptStep) (told : List Told) (x : ScriptStep) (said : Told)
    → Takes w xs told mid → AnswersLine mid x said v → Takes w (xs ++ x ∷ []) (told ++ said ∷ []) v
takes_push w mid v [] told x said done last =
    (said, v, [], subst (λ (u : Whole). AnswersLine u x said v) done.1 last, ap (λ (ts : List Told). ts ++ said ∷ []) done.0, (refl, refl))
takes_push w mid v (y ∷ xs) told x said run last =
    (run.0, run.1, run.2 ++ said ∷ [], run.3, ap (λ (ts : List Told). ts ++ said ∷ []) run.4, takes_push run.1 mid v xs run.2 x said run.5 last)

lines_push : (told : List Told) (said : Told) → step_lines (told ++ said ∷ []) ≡ step_lines told ++ step_line said
lines_push [] said = append-nil (step_line said)
lines_push (x ∷ xs) said = ap (λ (ls : List ℕ). step_line x ++ ls) (lines_push xs said) ∙ sym (append_assoc (step_line x) (step_lines xs) (step_line said))

and_and : (a b c : Bool) → (a && (b && c)) ≡ ((a && b) && c)
and_and true b c = refl
and_and false b c = refl

and_true : (b : Bool) → (b && true) ≡ b
and_true true = refl
and_true false = refl

possible_push : (told : List Told) (said : Told) → all_possible (told ++ said ∷ []) ≡ (all_possible told && is_ok said)
possible_push [] said = and_true (is_ok said)
possible_push (x ∷ xs) said = ap (λ (b : Bool). is_ok x && b) (possible_push xs said) ∙ and_and (is_ok x) (all_possible xs) (is_ok said)

pub none_taken : (w : Whole) (lines : List ℕ) → AreTaken w [] w lines lines true
none_taken w lines = record { told = []; takes = (refl, refl); lines = sym (append-nil lines); possible = refl }

pub one_taken : (w mid v : Whole) (xs : List ScriptStep) (x : ScriptStep) (said : Told) (old lines new : List ℕ) (all now : Bool)
    → AreTaken w xs mid old lines all → AnswersLine mid x said v
    → new ≡ lines ++ step_line said → now ≡ (all && is_ok said) → AreTaken w (xs ++ x ∷ []) v old new now
one_taken w mid v xs x said old lines new all now t last more same = record {
  told = t.told ++ said ∷ [];
  takes = takes_push w mid v xs t.told x said t.takes last;
  lines = more ∙ (ap (λ (ls : List ℕ). ls ++ step_line said) t.lines
      ∙ (append_assoc old (step_lines t.told) (step_line said)
      ∙ ap (λ (ls : List ℕ). old ++ ls) (sym (lines_push t.told said))));
  possible = same ∙ (ap (λ (b : Bool). b && is_ok said) t.possible ∙ sym (possible_push t.told said));
}
