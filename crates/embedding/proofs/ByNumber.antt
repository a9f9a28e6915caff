-- What a call is served as, by its number.
use Rattle.std.proofs.Common.{◌≡◌, ◌≢◌, ℕ, true, refl, sym, subst}
use Rattle.data_component.specs.Store.{Store}
use Rattle.embedding.specs.declared.frame.Frame.{Frame}
use Rattle.embedding.specs.declared.tc_part.TcPart.{TcPart}
use Rattle.embedding.specs.declared.code_part.CodePart.{CodePart}
use Rattle.embedding.specs.declared.engine.Body.{Body}
use Rattle.embedding.specs.Calling.{BegunBy, UnbegunBy}
use Rattle.embedding.specs.Programs.{is_code_call, RunBy, UnrunBy, IsRun}
use Rattle.embedding.specs.Keeping.{is_dc_call, KeptBy, SeenBy, UnkeptBy, IsKept}
use Rattle.embedding.specs.declared.codes.TheConstants.{SILENT, STRANGER}
use Rattle.embedding.specs.Serving.{is_tc_call, DoneBy, ShownBy, RefusedBy, RequestsBy, KeepsRequests, IsServed}
use Rattle.embedding.specs.Gathering.{GatheredBy, IsAsGathered}
use Rattle.embedding.specs.declared.gathered.Gathered.{Gathered}

pub same_gathered : (g : Gathered) → IsAsGathered g g
same_gathered g = record { bytes = refl; slots = refl; notes = refl }

-- a call of this number, whose facts are known by the number
pub served_as : (p : TcPart) (f : Frame) (code : ℕ) (p' : TcPart) (f' : Frame) (what : ℕ) → f.what ≡ what → is_tc_call what ≡ true
    → (code ≢ 0 → p'.state ≡ p.state)
    → (code ≢ 0 → RefusedBy what p f code p' f') → (code ≡ 0 → DoneBy what p f p' f') → (code ≡ 0 → ShownBy what p f f')
    → (code ≡ 0 → GatheredBy what p.gathered f p'.gathered) → (code ≢ 0 → IsAsGathered p.gathered p'.gathered)
    → (code ≡ 0 → RequestsBy what p p') → (code ≢ 0 → code ≢ STRANGER → KeepsRequests p p') → IsServed p f code p' f'
served_as p f code p' f' what is listed refused why done shown gathers gathers_nothing keeps keeps_all = record {
  refused = refused;
  why = λ e. subst (λ (n : ℕ). RefusedBy n p f code p' f') (sym is) (why e);
  known = λ _. subst (λ (n : ℕ). is_tc_call n ≡ true) (sym is) listed;
  done = λ e. subst (λ (n : ℕ). DoneBy n p f p' f') (sym is) (done e);
  shown = λ e. subst (λ (n : ℕ). ShownBy n p f f') (sym is) (shown e);
  gathers = λ e. subst (λ (n : ℕ). GatheredBy n p.gathered f p'.gathered) (sym is) (gathers e);
  gathers_nothing = gathers_nothing;
  keeps = λ e. subst (λ (n : ℕ). RequestsBy n p p') (sym is) (keeps e);
  keeps_all = keeps_all;
}

pub kept_as : (s : Store) (f : Frame) (code : ℕ) (s' : Store) (f' : Frame) (what : ℕ) → f.what ≡ what → is_dc_call what ≡ true
    → (code ≢ 0 → code ≢ SILENT → s' ≡ s) → (code ≢ 0 → UnkeptBy what s f code s') → (code ≡ 0 → KeptBy what s f s' f')
    → (code ≡ 0 → SeenBy what s f f') → IsKept s f code s' f'
kept_as s f code s' f' what is listed refused why done seen = record {
  refused = refused;
  why = λ e. subst (λ (n : ℕ). UnkeptBy n s f code s') (sym is) (why e);
  known = λ _. subst (λ (n : ℕ). is_dc_call n ≡ true) (sym is) listed;
  done = λ e. subst (λ (n : ℕ). KeptBy n s f s' f') (sym is) (done e);
  seen = λ e. subst (λ (n : ℕ). SeenBy n s f f') (sym is) (seen e);
}

pub run_as : (c : CodePart) (f : Frame) (code : ℕ) (c' : CodePart) (f' : Frame) (what : ℕ) → f.what ≡ what → is_code_call what ≡ true
    → (code ≢ 0 → c'.program ≡ c.program) → (code ≢ 0 → UnrunBy what c f code f')
    → (code ≡ 0 → RunBy what c f c' f') → (code ≡ 0 → GatheredBy what c.gathered f c'.gathered) → (code ≢ 0 → IsAsGathered c.gathered c'.gathered)
    → IsRun c f code c' f'
run_as c f code c' f' what is listed refused why done gathers gathers_nothing = record {
  refused = refused;
  why = λ e. subst (λ (n : ℕ). UnrunBy n c f code f') (sym is) (why e);
  known = λ _. subst (λ (n : ℕ). is_code_call n ≡ true) (sym is) listed;
  done = λ e. subst (λ (n : ℕ). RunBy n c f c' f') (sym is) (done e);
  gathers = λ e. subst (λ (n : ℕ). GatheredBy n c.gathered f c'.gathered) (sym is) (gathers e);
  gathers_nothing = gathers_nothing;
}

pub begun_as : (f : Frame) (body : Body) (what : ℕ) → f.what ≡ what → BegunBy what f body → BegunBy f.what f body
begun_as f body what is begun = subst (λ (n : ℕ). BegunBy n f body) (sym is) begun

pub unbegun_as : (f : Frame) (code what : ℕ) → f.what ≡ what → UnbegunBy what f code → UnbegunBy f.what f code
unbegun_as f code what is why = subst (λ (n : ℕ). UnbegunBy n f code) (sym is) why
