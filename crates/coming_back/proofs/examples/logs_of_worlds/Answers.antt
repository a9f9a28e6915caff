use Rattle.std.proofs.Common.{ℕ, zero, suc, [], ◌∷◌, refl, sym, ap}
use Rattle.data_component.specs.Store.{Store, empty}
use Rattle.transactions.proofs.StandingLemmas.{some_same, none_some}
use Rattle.serial.specs.Audit.{IsBegunTogether}
use Rattle.tc_world.proofs.ExampleLemmas.{empty_lived}
use Rattle.coming_back.proofs.examples.logs_of_worlds.Goals as goal

together : (rows ops : ℕ) → IsBegunTogether [] (empty rows ops ∷ [])
together rows ops zero s at = ap (λ (x : Store). x.base_mark) (sym (some_same (empty rows ops) s at))
together rows ops (suc d) s at = absurd (none_some _ s refl at)

pub returns-clause-nothing : goal.returns-clause-nothing
returns-clause-nothing c rows ops = record {
  lived = empty_lived 1 rows ops;
  begins = record { later = []; is = refl };
  same = refl;
  olds = record { count = refl; rows = λ r. refl };
  together = together rows ops;
}

pub returns-clause-others : goal.returns-clause-others
returns-clause-others c w h core dcs r differ from = differ (from.olds.rows r)
