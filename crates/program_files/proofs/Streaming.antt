-- Texts that are written in parts.
use Rattle.std.proofs.Common.{◌≡◌, true, false, ◌∙◌, ℕ, ◌-◌, List, [], ◌++◌, length, take, drop, Option, ap, sym, subst}
use Rattle.std.proofs.Common.{append_assoc, take-append-drop}
use Rattle.std.proofs.lemmas.List.{take_rest}
use Rattle.std.proofs.Math.Seq.{take-append_seam, take-length}
use Rattle.std.specs.Io.KnownBytes.{Appends, Keeps}
use Rattle.std.proofs.KnownBytes.{Appends-kept, Appends-nil, Appends-trans}
use Rattle.std.specs.Prelude.{Result, Ok, Err, IfOk, codes}
use Rattle.program_files.specs.Streams.{Stream, stream, Gets, Begins, IsFaultLine}

-- what is written of a text, and what is left of it
pub moves_front : (text done rest : List ℕ) (n : ℕ) → text ≡ done ++ rest
    → text ≡ (done ++ take n rest) ++ take (length rest - n) (drop n rest)
moves_front text done rest n e =
    e ∙ ap (λ l. done ++ l) (sym (take-append-drop n rest)) ∙ sym (append_assoc done (take n rest) (drop n rest))
    ∙ ap (λ l. (done ++ take n rest) ++ l) (sym (take_rest rest n))

-- nothing is written where what stands is kept
pub kept_appends : (a b : Option (List ℕ)) → Keeps a b → Appends a b []
kept_appends a b kept = Appends-kept a a b [] (Appends-nil a) kept

-- the first bytes of a text
pub begins_by : (s : Stream) (text done rest : List ℕ) → text ≡ done ++ rest → Gets s done → Begins s text
begins_by s text done rest split gets = (length done, subst (Gets s) (sym (ap (take (length done)) split ∙ take-append_seam done rest)) gets)

pub begins_nothing : (a : Option (List ℕ)) (text : List ℕ) → Begins (stream a a) text
begins_nothing a text = (0, Appends-nil a)

pub begins_whole : (s : Stream) (text : List ℕ) → Gets s text → Begins s text
begins_whole s text gets = (length text, subst (Gets s) (sym (take-length text)) gets)

-- a text's first bytes are those of a longer text
pub begins_longer : (s : Stream) (text more : List ℕ) → Begins s text → Begins s (text ++ more)
begins_longer s text more begins =
    let done = take begins.0 text in
    begins_by s (text ++ more) done (drop begins.0 text ++ more)
    (ap (λ l. l ++ more) (sym (take-append-drop begins.0 text)) ∙ append_assoc done (drop begins.0 text) more) begins.1

-- a whole text, and then the first bytes of another
pub begins_behind : (a b c : Option (List ℕ)) (text more : List ℕ) → Gets (stream a b) text → Begins (stream b c) more
    → Begins (stream a c) (text ++ more)
begins_behind a b c text more gets begins =
    let done = take begins.0 more in
    begins_by (stream a c) (text ++ more) (text ++ done) (drop begins.0 more)
    (ap (λ l. text ++ l) (sym (take-append-drop begins.0 more)) ∙ sym (append_assoc text done (drop begins.0 more)))
    (Appends-trans a b c text done gets begins.1)

pub true_not_false : true ≡ false → ⊥
true_not_false e = cc

-- a line that is made of these is a fault's
pub if_ok_fault_line : {S E : Type 0} (bytes : S → List ℕ) (what file why : List ℕ) (r : Result S E)
    → IfOk r (λ line. bytes line ≡ what ++ (file ++ (why ++ codes "\n"))) → IfOk r (λ line. IsFaultLine what file (bytes line))
if_ok_fault_line bytes what file why (Ok line) is = (why, is)
if_ok_fault_line bytes what file why (Err e) is = tt
