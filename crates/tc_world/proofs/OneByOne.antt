-- What the lists beside the log say of a world: calls as if run one after another, and an audit that finds nothing.
use Rattle.std.proofs.Common.{◌≡◌, ℕ, ◌<◌, false, List}
use Rattle.std.proofs.Common.{length, Some, sym, ◌∙◌, ap, subst}
use Rattle.std.specs.Prelude.{slice_get, slice_index_or}
use Rattle.history.specs.Flight.{open_op}
use Rattle.data_component.specs.Store.{Store}
use Rattle.tc_world.proofs.JustBegun.{own_rows}
use Rattle.tc_world.specs.Whole.{Whole}
use Rattle.tc_world.specs.declared.step.Step.{Step}
use Rattle.tc_world.specs.OneAtATime.{is_forge, NoForge, IsKnown, EachIsKnown, IsOneAtATime}
use Rattle.tc_world.specs.Joining.Listed.{IsListed}
use Rattle.serial.specs.Serial.{done, HonestFrom}
use Rattle.serial.specs.Lists.{logged}
use Rattle.serial.specs.Audit.{IsAgreed, base_of}
use Rattle.data_component.specs.Sorted.{row_of}
use Rattle.tc_world.proofs.Bases.{honest_same, beside_same}
use Rattle.serial.specs.Joining.Beside.{Beside}
use Rattle.serial.specs.Joining.Behind.{Behind}
use Rattle.serial.proofs.KeepLemmas.{ends_as_serial_from}
use Rattle.serial.proofs.ListLemmas.{over_same}
use Rattle.serial.proofs.OrderLemmas.{list_serial, in_step}
use Rattle.serial.proofs.AgreedLemmas.{agreed}
use Rattle.serial.proofs.SiteLemmas.{behind_end}
use Rattle.tc_world.proofs.Listed.{Known}

-- beside the records with which data components begin now
honest_now : (w : Whole) → (s : IsListed w) → HonestFrom (base_of w.dcs) w.core.events
honest_now w s = honest_same s.base (base_of w.dcs) s.based w.core.events s.honest

-- the list of a data component that is up, and of the incarnation that is known, stands beside the log
beside_known : (w : Whole) → IsListed w → (d : ℕ) (x : Store) → slice_get w.dcs d ≡ Some x → IsKnown w d x
    → Beside (base_of w.dcs) (logged w.core.events) (open_op w.core.events) (done w.core.events) d x.list
beside_known w s d x at is =
    let k = s.ok.stores d x at in
    beside_same s.base (base_of w.dcs) s.based (logged w.core.events) (open_op w.core.events) (done w.core.events) d x.list
    (subst (Beside s.base (logged w.core.events) (open_op w.core.events) (done w.core.events) d) (sym (k.same is.now)) (k.up is.up))

pub one_at_a_time : (w : Whole) → Known w.core → IsListed w → IsOneAtATime w
one_at_a_time w known s =
    record {
      answers = ends_as_serial_from w.core.procs (base_of w.dcs) w.core.events known.good known.legal (honest_now w s);
      values = λ d x r at is dc un.
          over_same (row_of x.base) (base_of w.dcs) x.list r (own_rows w.dcs d x r at dc)
          ∙ list_serial w.core.procs (base_of w.dcs) w.core.events d x.list known.good known.legal (honest_now w s) (beside_known w s d x at is) r dc un;
      there = λ n o said logs was. s.ok.said n o said logs was;
      stands = λ d x n o said at is dc logs was did. (beside_known w s d x at is).answers n o said logs dc was did;
      once = λ d x at. (cut d x at).once;
      asked = λ d x k e at is. (cut d x at).entries k e is;
      between = λ d x r at is dc. in_step w.core.procs (base_of w.dcs) w.core.events d x.list known.good known.legal (beside_known w s d x at is) r dc;
    }
  where
    cut : (d : ℕ) (x : Store) → slice_get w.dcs d ≡ Some x → Behind s.base (logged w.core.events) (open_op w.core.events) (done w.core.events) d x.list
    cut d x at =
        let k = s.ok.stores d x at in
        behind_end s.base (logged w.core.events) (open_op w.core.events) (done w.core.events) d (s.ok.v d) x.list
        k.cut k.behind

-- and where each is, an audit finds nothing
pub agrees : (w : Whole) → Known w.core → IsListed w → EachIsKnown w → IsAgreed w.core.procs w.core.events w.dcs
agrees w known s each =
    agreed w.core.procs w.core.events w.dcs known.good known.legal (honest_now w s)
    (λ d x at. (beside_known w s d x at (each d x at), (s.ok.stores d x at).whole)) s.ok.said (λ d x at. (s.behind d x at).base_mark)

pub honest_at : (xs : List Step) (k : ℕ) (x : Step) → NoForge xs → k < length xs → x ≡ slice_index_or xs k x → is_forge x ≡ false
honest_at xs k x none inside is = ap is_forge is ∙ none k x inside
