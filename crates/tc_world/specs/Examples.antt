-- Worlds of which examples speak.
use Rattle.std.specs.Prelude.{ℕ, [], ◌∷◌, replicate, Some, None}
use Rattle.data_component.specs.Store.{Store, empty}
use Rattle.transactions.specs.declared.Site.{Site}
use Rattle.transactions.specs.InFlight.{untold}
use Rattle.tc_world.specs.Whole.{Whole}

-- no procedure, so many data components with these limits, and nothing has happened
abbrev pub empty_world : ℕ → ℕ → ℕ → Whole
empty_world n rows ops = record {
  core = record { procs = []; names = []; dcs = n; events = []; given_up = []; sites = replicate n untold };
  dcs = replicate n (empty rows ops);
  copies = [];
  replies = [];
  news = [];
}

-- one that has restarted, and lost all
abbrev pub down_site : Site
down_site = record { incarnation = 1; redo = Some (record { mark = 0; redone = 0 }) }

-- one data component that has restarted and is up again
abbrev pub upped_world : ℕ → ℕ → Whole
upped_world rows ops = record {
  core = record { procs = []; names = []; dcs = 1; events = []; given_up = []; sites = (let t : Site = record { incarnation = 1; redo = None } in t) ∷ [] };
  dcs = (let s : Store = record {
    base = [];
    base_mark = 0;
    list = [];
    mark = 0;
    saved = [];
    saved_mark = 0;
    incarnation = 1;
    rows = rows;
    ops = ops;
  } in s) ∷ [];
  copies = [];
  replies = [];
  news = [];
}
