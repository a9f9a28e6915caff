-- Where the log is legal and agrees with the data components, no fault of an audit is so.
use Rattle.std.proofs.Common.{◌≡◌, ℕ, List, ◌∷◌, refl, subst}
use Rattle.std.specs.Prelude.{reverse}
use Rattle.std.proofs.lemmas.List.{reverse-reverse}
use Rattle.tc_log.specs.declared.event.Event.{Event}
use Rattle.verifier.specs.Checked.{Checked}
use Rattle.data_component.specs.Performed.{Performed}
use Rattle.data_component.specs.Store.{Store}
use Rattle.transactions.specs.Legal.{Legal}
use Rattle.serial.specs.Audit.{IsAgreed}
use Rattle.serial.proofs.AuditLemmas.{legal_tail}
use Rattle.tc_core.specs.Checking.{IsFirstIllegal}
use Rattle.audit.specs.Auditing.{IsFirstNotAsked, IsAuditFault}
use Rattle.audit.specs.declared.auditing.AuditFault.{AuditFault}
use Rattle.audit.specs.declared.auditing.AuditFault.TheVariants.{Begun, LogIllegal, NotAsked, Mismatch, Rows, Memory}
use Rattle.audit.proofs.MatchLemmas.{Somewhere, turned}

each_allowed : (ps : List Checked) (h : List Event) (place : ℕ) → Legal ps h → IsFirstIllegal ps h place → ⊥
each_allowed ps h place legal f = f.illegal (legal_tail ps f.stands.later (f.e ∷ f.stands.earlier) (subst (Legal ps) f.stands.is legal)).0

each_asked : (ps : List Checked) (h : List Event) (dcs : List Store) (d place : ℕ) → IsAgreed ps h dcs → IsFirstNotAsked h dcs d place → ⊥
each_asked ps h dcs d place agreed f =
    let w : Somewhere f.s.list f.e = subst (λ (list : List Performed). Somewhere list f.e) (reverse-reverse f.s.list)
    (turned (reverse f.s.list) place f.e f.at) in
    f.not (agreed.asked d f.s w.place f.e f.there w.at)

pub no_fault : (ps : List Checked) (h : List Event) (dcs : List Store) (f : AuditFault) → Legal ps h → IsAgreed ps h dcs → IsAuditFault ps h dcs f → f ≡ Memory
no_fault ps h dcs (Begun d) legal agreed so = absurd (so.not (agreed.together d so.s so.there))
no_fault ps h dcs (LogIllegal place) legal agreed so = absurd (each_allowed ps h place legal so.1)
no_fault ps h dcs (NotAsked d place) legal agreed so = absurd (each_asked ps h dcs d place agreed so.2)
no_fault ps h dcs (Mismatch n) legal agreed so = absurd (so.3.not (agreed.matched n so.3.o so.3.said so.3.logs so.3.answered))
no_fault ps h dcs (Rows r) legal agreed so = absurd (so.4.not (agreed.kept r so.4.free))
no_fault ps h dcs Memory legal agreed so = refl
