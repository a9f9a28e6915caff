-- What a report says, from what its parts say.
use Rattle.std.proofs.Common.{◌≡◌, ◌∙◌, ℕ, Bool, List, [], ◌∷◌, length, map, reverse, Some, None, Option, refl, sym, ap, subst}
use Rattle.std.specs.Prelude.{IfOk, Result, Ok, Err, string_bytes}
use Rattle.std.specs.List.{All}
use Rattle.std.proofs.lemmas.Result.{IfOk-weaker}
use Rattle.std.proofs.lemmas.List.{length-map}
use Rattle.std.proofs.lemmas.List.Elements.{All-cons, All-nil}
use Rattle.tc_log.specs.declared.event.Event.{Event}
use Rattle.report_texts.specs.declared.output.Output.{Output}
use Rattle.log_file.specs.declared.stored.Stored.{Stored}
use Rattle.log_file.specs.Stored.{IsStored}
use Rattle.log_file.specs.Found.{base_in}
use Rattle.verifier.specs.Checked.{Checked}
use Rattle.transactions.specs.Legal.{Legal}
use Rattle.data_component.specs.Store.{Store, restarted, news_of}
use Rattle.serial.specs.Audit.{IsAgreed}
use Rattle.tc_core.specs.Core.{Core, loaded_in}
use Rattle.tc_core.specs.declared.recovery.RecoverFault.TheVariants.{Begun, DcCount, Unfit, Forgotten}
use Rattle.tc_core.specs.declared.recovery.SiteNote.TheVariants.{Restarted}
use Rattle.tc_world.specs.Whole.{Whole}
use Rattle.tc_world.specs.OneAtATime.{EachIsKnown}
use Rattle.coming_back.specs.declared.coming.ComeBackFault.{ComeBackFault}
use Rattle.coming_back.specs.declared.coming.ComeBackFault.TheVariants.{Recover, NoRoom, Otherwise, Memory}
use Rattle.coming_back.specs.Serving.{AreRedone}
use Rattle.coming_back.specs.Coming.{HasOnlyRows, at_rest, ComesFrom}
use Rattle.coming_back.specs.Faults.{HasLog, IsFaultOf}
use Rattle.procedure_digest.specs.Header.{header_of}
use Rattle.procedure_digest.specs.Difference.{other_line}
use Rattle.scripts.specs.Reading.{Contents}
use Rattle.scripts.specs.declared.script.Dc.{Dc}
use Rattle.script_loading.specs.Loading.{Beginning, with_procedures, empty_core, empty_store, IsReady}
use Rattle.script_loading.specs.declared.loading.Loaded.{Loaded as Script}
use Rattle.log_part.specs.declared.part.Part.{Part}
use Rattle.base_records.specs.declared.beginning.BaseFault.{BaseFault}
use Rattle.base_records.specs.Beginning.{HaveBegun, IsUnbegun}
use Rattle.base_records.specs.Lines.{base_fault_line}
use Rattle.log_command.specs.Joining.Beginning.{IsOfLog}
use Rattle.log_command.specs.LogReport.{stored_lines, IsListing, Listed, AreBrought, AreAuditLines, IsUnfit}
use Rattle.log_command.specs.LogReport.{IsChecked, NotBegun, NotBrought, Audited}
use Rattle.log_command.specs.LogReport.{own_header, IsBeside, Anothers, Own, IsAudit, IsAuditBy}

pub listed_is : {E : Type 0} (part : Part) (rows : Bool) (file : List ℕ) (s : Stored) (result : Result Output E) → IsStored file s
    → IfOk result (λ r. string_bytes r.lines ≡ stored_lines part rows s) → IfOk result (λ r. r.status ≡ 0)
    → IfOk result (λ r. IsListing part rows file r.status (string_bytes r.lines))
listed_is part rows file s (Ok r) is lines status = Listed s is lines status
listed_is part rows file s (Err e) is lines status = tt

pub anothers_is : {E : Type 0} (file : List ℕ) (start : Core) (empties : List Store) (s : Stored) (result : Result Output E) → IsStored file s
    → ¬ (s.header ≡ own_header start s) → IfOk result (λ r. string_bytes r.lines ≡ other_line s.header (own_header start s))
    → IfOk result (λ r. r.status ≡ 1)
    → IfOk result (λ r. IsBeside file start empties r.status (string_bytes r.lines))
anothers_is file start empties s (Ok r) is differs line status = Anothers s is differs line status
anothers_is file start empties s (Err e) is differs line status = tt

pub own_is : {E : Type 0} (file : List ℕ) (start : Core) (empties : List Store) (s : Stored) (result : Result Output E) → IsStored file s
    → s.header ≡ own_header start s → IfOk result (λ r. IsChecked start empties s r.status (string_bytes r.lines))
    → IfOk result (λ r. IsBeside file start empties r.status (string_bytes r.lines))
own_is file start empties s result is same checked = IfOk-weaker result _ _ (λ r c. Own s is same c) checked

-- ---- what a script begins with

empty_one : (dc : Dc) → HasOnlyRows (empty_store dc)
empty_one dc = record { list = refl; saved = refl; mark = refl; saved_mark = refl; never = refl }

all_empty : (dcs : List Dc) → All HasOnlyRows (map empty_store dcs)
all_empty [] = All-nil HasOnlyRows
all_empty (dc ∷ dcs) = All-cons HasOnlyRows (empty_store dc) (map empty_store dcs) (empty_one dc) (all_empty dcs)

pub ready_empty : (contents : Contents) (script : Script) → IsReady contents script → All HasOnlyRows script.dcs.items
ready_empty contents script ready = subst (All HasOnlyRows) (sym ready.dcs) (all_empty contents.dcs)

pub ready_count : (contents : Contents) (script : Script) → IsReady contents script → length script.dcs.items ≡ script.state.dcs
ready_count contents script ready =
    ap length ready.dcs ∙ (length-map contents.dcs empty_store ∙ sym (ap (λ (c : Core). c.dcs) ready.state))

pub ready_begun : (contents : Contents) (script : Script) → IsReady contents script → script.state.events ≡ []
ready_begun contents script ready = ap (λ (c : Core). c.events) ready.state

pub audit_is : {E : Type 0} (file : List ℕ) (b : Beginning) (script : Script) (result : Result Output E) → (b.refusal ≡ None) × IsReady b.contents script
    → IfOk result (λ x. IsBeside file script.state script.dcs.items x.status (string_bytes x.lines))
    → IfOk result (λ x. IsAudit file b x.status (string_bytes x.lines))
audit_is file b script result ready beside =
    IfOk-weaker result _ _
    (λ x is. subst (λ (o : Option (List ℕ)). IsAuditBy o b.contents file x.status (string_bytes x.lines)) (sym ready.0)
    (subst (λ (dcs : List Store). IsBeside file (with_procedures (empty_core (length b.contents.dcs))
    b.contents.procedures) dcs x.status (string_bytes x.lines)) ready.1.dcs
    (subst (λ (c : Core). IsBeside file c script.dcs.items x.status (string_bytes x.lines)) ready.1.state is)))
    beside

-- ---- data components that begin with the rows with which the log begins, and are brought to where it left them

pub unbegun_is : {E : Type 0} (start : Core) (empties : List Store) (s : Stored) (fault : BaseFault) (result : Result Output E)
    → IsUnbegun (base_in s.base) empties fault → IfOk result (λ r. string_bytes r.lines ≡ base_fault_line fault) → IfOk result (λ r. r.status ≡ 1)
    → IfOk result (λ r. IsChecked start empties s r.status (string_bytes r.lines))
unbegun_is start empties s fault (Ok r) why line status = NotBegun fault why line status
unbegun_is start empties s fault (Err e) why line status = tt

pub brought : (start back : Core) (empties : List Store) (log : List Event) (dcs : List Store) → Legal start.procs log → HasLog start log back
    → EachIsKnown (at_rest back dcs) → AreRedone (map restarted empties) dcs
    → ((w : Whole) → ComesFrom w log start empties → IsAgreed back.procs back.events dcs) → AreBrought start empties log dcs
brought start back empties log dcs legal has known redone agreed = record {
  back = back;
  legal = legal;
  has_log = has;
  known = known;
  redone = redone;
  agreed = λ w from.
      subst (λ (ps : List Checked). IsAgreed ps log dcs) (ap (λ (x : Core). x.procs) has)
      (subst (λ (es : List Event). IsAgreed back.procs es dcs) (ap (λ (x : Core). x.events) has) (agreed w from));
}

pub audited_is : {E : Type 0} (start back : Core) (empties begun : List Store) (s : Stored) (dcs : List Store) (result : Result Output E)
    → HaveBegun (base_in s.base) (reverse s.log.events) empties begun → AreBrought start begun s.log.events dcs
    → HasLog start s.log.events back
    → IfOk result (λ r. AreAuditLines back.procs s dcs r.status (string_bytes r.lines))
    → IfOk result (λ r. IsChecked start empties s r.status (string_bytes r.lines))
audited_is start back empties begun s dcs result from are has found =
    IfOk-weaker result _ _
    (λ r f. Audited begun dcs from are
    (subst (λ (ps : List Checked). AreAuditLines ps s dcs r.status (string_bytes r.lines))
    (ap (λ (x : Core). x.procs) has) f)) found

pub of_log : (start : Core) (log : List Event) (count : ℕ) (back : Core) (dcs : List Store) (fault : ComeBackFault) → IsFaultOf start log count back dcs fault
    → start.events ≡ [] → count ≡ start.dcs → IsOfLog fault
of_log start log count back dcs (Recover Begun) why none same = why.0 none
of_log start log count back dcs (Recover DcCount) why none same = why.0 (length-map dcs (λ (s : Store). Restarted (news_of s)) ∙ (why.1 ∙ same))
of_log start log count back dcs (Recover (Unfit fault)) why none same = tt
of_log start log count back dcs (Recover (Forgotten d)) why none same = tt
of_log start log count back dcs (NoRoom d) why none same = tt
of_log start log count back dcs (Otherwise d) why none same = tt
of_log start log count back dcs Memory why none same = tt

pub unfit_is : {E : Type 0} (start back : Core) (empties begun : List Store) (s : Stored) (dcs : List Store) (fault : ComeBackFault)
    (result : Result Output E) → HaveBegun (base_in s.base) (reverse s.log.events) empties begun
    → IsFaultOf start s.log.events (length begun) back dcs fault → IfOk result (λ r. IsUnfit fault r.status (string_bytes r.lines))
    → IfOk result (λ r. IsChecked start empties s r.status (string_bytes r.lines))
unfit_is start back empties begun s dcs fault result from why told = IfOk-weaker result _ _ (λ r u. NotBrought begun from back dcs fault why u) told
