-- The notes of data components of which something else is known.
use Rattle.std.proofs.Common.{◌≡◌, ℕ, suc, ◌+◌, ◌<◌, List, [], ◌∷◌, ◌++◌, length, map, get_or, sym, ap, ◌∙◌, arith}
use Rattle.std.specs.List.{fold}
use Rattle.std.proofs.lemmas.Option.{slice_get-get_or}
use Rattle.std.proofs.lemmas.List.Sums.{fold-append}
use Rattle.std.proofs.lemmas.List.{get_or-map}
use Rattle.tc_core.specs.declared.recovery.SiteNote.{SiteNote}
use Rattle.transactions.specs.declared.Site.{Site}
use Rattle.transactions.specs.InFlight.{site_at, site_by}
use Rattle.log_file.specs.declared.note.Note.{Note}
use Rattle.log_file.specs.Reading.{with_note}
use Rattle.engine_log.specs.Notes.{known_of}
use Rattle.engine_log.proofs.Mixed.{mixed, mixed_all, mixed_step, mixed_same}

-- what is noted once so many data components were looked at
abbrev pub noted_after : ℕ → List Site → List SiteNote → List SiteNote
noted_after k sites noted = mixed known_of k sites noted

site_is : (sites : List Site) (k : ℕ) (d : Site) → k < length sites → site_at sites k ≡ get_or sites k d
site_is sites k d below = ap site_by (slice_get-get_or sites k d below)

pub noted_step : (k : ℕ) (sites : List Site) (noted : List SiteNote) (notes : List Note) (known : SiteNote) → k < length sites
    → length noted ≡ length sites → known ≡ known_of (site_at sites k) → fold with_note noted notes ≡ noted_after k sites noted
    → fold with_note noted (notes ++ record { dc = k; known = known } ∷ []) ≡ noted_after (suc k) sites noted
noted_step k sites noted notes known below same is was =
    let d : Site = site_at sites k in
    let n : Note = record { dc = k; known = known } in
    fold-append with_note noted notes (n ∷ [])
    ∙ (ap (λ (l : List SiteNote). with_note l n) was
    ∙ (ap (λ (x : SiteNote). with_note (noted_after k sites noted) (record { dc = k; known = x })) (is ∙ ap known_of (site_is sites k d below))
    ∙ mixed_step known_of k sites noted d below same))

pub noted_same : (k : ℕ) (sites : List Site) (noted : List SiteNote) (notes : List Note) (known e : SiteNote) → k < length sites
    → length noted ≡ length sites → known ≡ known_of (site_at sites k) → get_or noted k e ≡ known
    → fold with_note noted notes ≡ noted_after k sites noted → fold with_note noted notes ≡ noted_after (suc k) sites noted
noted_same k sites noted notes known e below same is here was =
    let d : Site = site_at sites k in
    was ∙ mixed_same known_of k sites noted d e below same (here ∙ (is ∙ ap known_of (site_is sites k d below)))

pub noted_all : (sites : List Site) (noted : List SiteNote) (notes : List Note) (k : ℕ) → k ≡ length sites → length noted ≡ length sites
    → fold with_note noted notes ≡ noted_after k sites noted → fold with_note noted notes ≡ map known_of sites
noted_all sites noted notes k end same was =
    was ∙ (ap (λ (n : ℕ). noted_after n sites noted) end ∙ mixed_all known_of sites noted same)

-- where all is noted, so is each
pub noted_here : (sites : List Site) (noted : List SiteNote) (k : ℕ) (known e : SiteNote) → k < length sites → known ≡ known_of (site_at sites k)
    → noted ≡ map known_of sites → get_or noted k e ≡ known
noted_here sites noted k known e below is all =
    let d : Site = site_at sites k in
    ap (λ (l : List SiteNote). get_or l k e) all ∙ (get_or-map known_of sites k d e below ∙ (sym (ap known_of (site_is sites k d below)) ∙ sym is))

-- the loop, by one data component
module _ (k next : ℕ) (sites : List Site) (noted : List SiteNote) (notes : List Note) (known : SiteNote) (below : k < length sites)
    (same : length noted ≡ length sites) (is : known ≡ known_of (site_at sites k)) (after : next ≡ k + 1)
    (was : fold with_note noted notes ≡ noted_after k sites noted) where
  one : suc k ≡ next
  one = omega (arith, after)

  pub noted_on : (all : List Note) → all ≡ notes ++ record { dc = k; known = known } ∷ [] → fold with_note noted all ≡ noted_after next sites noted
  noted_on all grown =
      ap (λ (ns : List Note). fold with_note noted ns) grown
      ∙ (noted_step k sites noted notes known below same is was ∙ ap (λ (n : ℕ). noted_after n sites noted) one)

  pub noted_still : (e : SiteNote) → get_or noted k e ≡ known → fold with_note noted notes ≡ noted_after next sites noted
  noted_still e here = noted_same k sites noted notes known e below same is here was ∙ ap (λ (n : ℕ). noted_after n sites noted) one
