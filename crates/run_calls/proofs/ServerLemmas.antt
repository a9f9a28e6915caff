-- Threads that promise to serve data components, and what they hand back.
use Rattle.std.proofs.Common.{◌≡◌, ℕ, ◌<◌, ◌+◌, List, [], ◌∷◌, ◌++◌, length, drop, get_or, get_or-drop, refl, sym, ◌∙◌, ap, subst, arith, add-zero, below_more}
use Rattle.std.proofs.lemmas.List.{drop-drop, length_push, get_or_append_left, get_or_push}
use Rattle.std.proofs.lemmas.Option.{slice_get_within, get_or_from_slice_get}
use Rattle.data_component.specs.Store.{Store}
use Rattle.dc_links.specs.Serving.{IsServed}
use Rattle.run_calls.specs.Joining.Servers.{Server, Promises, ArePromised}
use Rattle.run_calls.specs.Answered.{AreServed}

-- ---- starting

-- what stands first among the rest is at the next place
next_is : (dcs rest : List Store) (n : ℕ) (dc other : Store) → drop n dcs ≡ dc ∷ rest → dc ≡ get_or dcs n other
next_is dcs rest n dc other next =
    ap (λ (xs : List Store). get_or xs 0 other) (sym next) ∙ (get_or-drop n dcs 0 other ∙ ap (λ (k : ℕ). get_or dcs k other) (add-zero n))

rest_is : (dcs rest : List Store) (n : ℕ) (dc : Store) → drop n dcs ≡ dc ∷ rest → rest ≡ drop (n + 1) dcs
rest_is dcs rest n dc next = sym (ap (drop 1) next) ∙ drop-drop 1 n dcs

-- one thread more, for the data component that is next
one_promised : (dcs rest : List Store) (servers : List Server) (server : Server) (dc : Store) → drop (length servers) dcs ≡ dc ∷ rest
    → Promises (length servers) dc server → ArePromised dcs servers → ArePromised dcs (servers ++ server ∷ [])
one_promised dcs rest servers server dc next promises so_far = λ k other d within.
    let n = length servers in
    let here : Promises n (get_or dcs n d) (get_or (servers ++ server ∷ []) n other) =
    subst (Promises n (get_or dcs n d)) (sym (get_or_push servers server other n refl)) (promises.0, promises.1 ∙ next_is dcs rest n dc d next) in
    let before : (i : ℕ) → i < n → Promises i (get_or dcs i d) (get_or (servers ++ server ∷ []) i other) = λ i below.
    subst (Promises i (get_or dcs i d)) (sym (get_or_append_left servers (server ∷ []) other i below)) (so_far i other d below) in
    below_more (λ (i : ℕ). Promises i (get_or dcs i d) (get_or (servers ++ server ∷ []) i other)) n before here k
    (omega (arith, within, length_push servers server))

pub one_more : (dcs rest : List Store) (servers now : List Server) (server : Server) (dc : Store) → dc ∷ rest ≡ drop (length servers) dcs
    → Promises (length servers) dc server → now ≡ servers ++ server ∷ [] → ArePromised dcs servers
    → (rest ≡ drop (length now) dcs) × ArePromised dcs now
one_more dcs rest servers now server dc next promises is so_far =
    let count : length now ≡ length servers + 1 = ap length is ∙ length_push servers server in (
      rest_is dcs rest (length servers) dc (sym next) ∙ ap (λ (n : ℕ). drop n dcs) (sym count),
      subst (ArePromised dcs) (sym is) (one_promised dcs rest servers server dc (sym next) promises so_far),
    )

-- ---- handing back

-- this thread is the one at the place, and what was handed back is what it promises
abbrev pub IsKept : List Server → ℕ → Store → Type 0
IsKept servers i dc = (server : Server) × (server ≡ get_or servers i server) × IsServed server.promise.0 server.promise.1.value dc

kept_served : (number : ℕ) (server : Server) (before after : Store) → Promises number before server
    → IsServed server.promise.0 server.promise.1.value after → IsServed number before after
kept_served number server before after promises served =
    subst (λ (n : ℕ). IsServed n before after) promises.0 (subst (λ (s : Store). IsServed server.promise.0 s after) promises.1 served)

pub all_served : (dcs back : List Store) (servers : List Server) → ArePromised dcs servers → length dcs ≡ length servers
    → length back ≡ length servers → ((i : ℕ) (dc : Store) → i < length servers → IsKept servers i (get_or back i dc)) → AreServed dcs back
all_served dcs back servers promised many as_many kept = record {
  each = as_many ∙ sym many;
  served = λ number before after was is.
      let within : number < length servers = omega (arith, many, slice_get_within dcs number before was) in
      let k = kept number after within in
      let promises : Promises number (get_or dcs number before) k.0 = subst (Promises number (get_or dcs number before))
      (sym k.1) (promised number k.0 before within) in
      let first : get_or dcs number before ≡ before = get_or_from_slice_get dcs number before before was in
      let last : get_or back number after ≡ after = get_or_from_slice_get back number after after is in
      kept_served number k.0 before after (promises.0, promises.1 ∙ first) (subst (IsServed k.0.promise.0 k.0.promise.1.value) last k.2);
}
