-- Threads that serve data components.
use Rattle.std.specs.Prelude.{◌≡◌, ℕ, ◌<◌, List, length, get_or}
use Rattle.std.specs.declared.thread.PromisedHandle.{PromisedHandle}
use Rattle.data_component.specs.Store.{Store}
use Rattle.dc_links.specs.declared.ring_link.ServedFrom.{ServedFrom}

abbrev pub Server : Type 0
Server = PromisedHandle Store ServedFrom

-- it promises to serve this data component, under this number
abbrev pub Promises : ℕ → Store → Server → Type 0
Promises number dc server = (server.promise.0 ≡ number) × (server.promise.1.value ≡ dc)

-- each promises to serve the data component at its place, and under the number of that place
abbrev pub ArePromised : List Store → List Server → Type 0
ArePromised dcs servers = (k : ℕ) (server : Server) (dc : Store) → k < length servers
    → Promises k (get_or dcs k dc) (get_or servers k server)
