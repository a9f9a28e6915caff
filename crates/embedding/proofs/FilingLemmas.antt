-- What a call for the log's file is served as, by its number.
use Rattle.std.proofs.Common.{◌≡◌, ◌≢◌, arith, ℕ, List, [], ◌∷◌, Option, Some, None, length, true, false, refl, sym, ap, ◌∙◌, subst}
use Rattle.std.specs.Prelude.{◌==◌, is_some}
use Rattle.tc_log.specs.declared.event.Event.{Event}
use Rattle.log_file.specs.declared.header.Header.{Header}
use Rattle.embedding.specs.declared.frame.Frame.{Frame}
use Rattle.embedding.specs.declared.filed_part.FiledPart.{FiledPart}
use Rattle.embedding.specs.Filing.{is_file_call, FiledBy, UnfiledBy, HasSameFile, IsFiled, IsNew}
use Rattle.embedding.specs.Gathering.{IsAsGathered}
use Rattle.embedding.specs.Serving.{KeepsRequests, IsServed}
use Rattle.transactions.proofs.StandingLemmas.{eq-false}
use Rattle.embedding.proofs.ByNumber.{same_gathered}

true_false : true ≡ false → ⊥
true_false same = cc

-- a call of this number, which is one for the file
pub filed_as : (p : FiledPart) (f : Frame) (code : ℕ) (p' : FiledPart) (f' : Frame) (what : ℕ) → f.what ≡ what → is_file_call what ≡ true
    → (code ≢ 0 → p'.part.state ≡ p.part.state) → (code ≢ 0 → HasSameFile p p') → (code ≡ 0 → FiledBy what p f p' f')
    → (code ≢ 0 → UnfiledBy what p f code f')
    → (code ≢ 0 → IsAsGathered p.part.gathered p'.part.gathered × KeepsRequests p.part p'.part) → IsFiled p f code p' f'
filed_as p f code p' f' what is listed refused kept filed why rest = record {
  refused = refused;
  kept = kept;
  filed = λ e. subst (λ (n : ℕ). FiledBy n p f p' f') (sym is) (filed e);
  why = λ e. subst (λ (n : ℕ). UnfiledBy n p f code f') (sym is) (why e);
  rest = λ e listed. rest e;
  served = λ other. absurd (true_false (sym (subst (λ (n : ℕ). is_file_call n ≡ true) (sym is) listed) ∙ other));
}

-- any other
pub served_by : (p : FiledPart) (f : Frame) (code : ℕ) (p' : FiledPart) (f' : Frame) → is_file_call f.what ≡ false
    → IsServed p.part f code p'.part f' → (code ≢ 0 → HasSameFile p p') → (code ≡ 0 → FiledBy f.what p f p' f')
    → (code ≢ 0 → UnfiledBy f.what p f code f') → IsFiled p f code p' f'
served_by p f code p' f' other served kept filed why = record {
  refused = served.refused;
  kept = kept;
  filed = filed;
  why = why;
  rest = λ e listed. absurd (true_false (sym listed ∙ other));
  served = λ none. served;
}

-- nothing has changed
pub same_file : (p p' : FiledPart) → p' ≡ p → HasSameFile p p'
same_file p p' same = record { file = ap (λ (x : FiledPart). x.file) same; prepared = ap (λ (x : FiledPart). x.prepared) same }

pub same_rest : (p p' : FiledPart) → p' ≡ p → IsAsGathered p.part.gathered p'.part.gathered × KeepsRequests p.part p'.part
same_rest p p' same =
    subst (λ (x : FiledPart). IsAsGathered p.part.gathered x.part.gathered × KeepsRequests p.part x.part) (sym same)
    (same_gathered p.part.gathered, refl)

-- ---- the way back

none_of : (o : Option Header) → is_some o ≡ false → o ≡ None
none_of None isnt = refl
none_of (Some h) isnt = absurd (true_false isnt)

empty_of : (events : List Event) → (length events == 0) ≡ true → events ≡ []
empty_of [] is = refl
empty_of (e ∷ events) is = absurd (let bad : true ≡ false = sym is ∙ eq-false (length (e ∷ events)) 0 (λ same. omega (arith, same)) in cc)

pub is_new : (p : FiledPart) → is_some p.file.header ≡ false → (length p.part.state.events == 0) ≡ true → IsNew p
is_new p isnt is = record { unbegun = none_of p.file.header isnt; no_event = empty_of p.part.state.events is }
