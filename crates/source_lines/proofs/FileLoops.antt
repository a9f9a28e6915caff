-- How the loops over tables of files go on.
use Rattle.std.proofs.Common.{◌≡◌, ◌∙◌, ℕ, zero, suc, ◌+◌, ◌-◌, ◌<◌, List, length, refl, ap, sym}
use Rattle.std.specs.Prelude.{Bool, false, ◌==◌, if◌then◌else◌, Option, Some, None}
use Rattle.source_lines.specs.Numbers.{◌>>=◌, behind_lebs, text}
use Rattle.source_lines.specs.Files.{behind_directories, path_four, behind_field, string_field, field_in, behind_formats}
use Rattle.source_lines.specs.Files.{behind_entry, behind_entries, path_in}
use Rattle.source_lines.specs.declared.files.Form.{Form}
use Rattle.source_lines.proofs.Counts.{one_left}

abbrev Fields : Type 0
Fields = Option (ℕ × Form × List ℕ)

abbrev Texts : Type 0
Texts = Option (List ℕ × List ℕ)

-- ---- version 4

abbrev after_name : ℕ → List ℕ × List ℕ → Option (List ℕ)
after_name n (name, rest) = if length name == 0 then Some rest else behind_directories n rest

pub directories_on : (n k : ℕ) (bytes name rest : List ℕ) (total : Option (List ℕ)) → k < n → text bytes ≡ Some (name, rest)
    → (length name == 0) ≡ false → behind_directories (n - k) bytes ≡ total → behind_directories (n - (k + 1)) rest ≡ total
directories_on n k bytes name rest total below read named so_far =
    sym (ap (λ (m : ℕ). behind_directories m bytes) (one_left n k below)
    ∙ ap (λ (r : Texts). r >>= after_name (n - (k + 1))) read
    ∙ ap (λ (b : Bool). if b then Some rest else behind_directories (n - (k + 1)) rest) named)
    ∙ so_far

abbrev after_file : ℕ → List ℕ × List ℕ → Option (List ℕ)
after_file n (name, rest) =
    if length name == 0 then None else if n == 0 then Some name else behind_lebs 3 rest >>= λ after. path_four n after

pub files_on : (n k : ℕ) (bytes name rest after : List ℕ) (total : Option (List ℕ)) → k < n → text bytes ≡ Some (name, rest)
    → (length name == 0) ≡ false → (n - (k + 1) == 0) ≡ false → behind_lebs 3 rest ≡ Some after
    → path_four (n - k) bytes ≡ total → path_four (n - (k + 1)) after ≡ total
files_on n k bytes name rest after total below read named more passed so_far =
    sym (ap (λ (m : ℕ). path_four m bytes) (one_left n k below)
    ∙ ap (λ (r : Texts). r >>= after_file (n - (k + 1))) read
    ∙ ap (λ (b : Bool). if b then None else if n - (k + 1) == 0 then Some name else behind_lebs 3 rest >>= λ next. path_four (n - (k + 1)) next) named
    ∙ ap (λ (b : Bool). if b then Some name else behind_lebs 3 rest >>= λ next. path_four (n - (k + 1)) next) more
    ∙ ap (λ (r : Option (List ℕ)). r >>= λ next. path_four (n - (k + 1)) next) passed)
    ∙ so_far

-- ---- version 5

abbrev after_format : ℕ → ℕ × Form × List ℕ → Option (List ℕ)
after_format n (content, form, next) = behind_formats n next

pub formats_on : (n k content : ℕ) (form : Form) (formats next : List ℕ) (total : Option (List ℕ)) → k < n
    → field_in formats ≡ Some (content, form, next)
    → behind_formats (n - k) formats ≡ total → behind_formats (n - (k + 1)) next ≡ total
formats_on n k content form formats next total below read so_far =
    sym (ap (λ (m : ℕ). behind_formats m formats) (one_left n k below)
    ∙ ap (λ (r : Fields). r >>= after_format (n - (k + 1))) read)
    ∙ so_far

abbrev after_field : ℕ → List ℕ → ℕ × Form × List ℕ → Option (List ℕ)
after_field n bytes (content, form, next) = behind_field form bytes >>= λ rest. behind_entry n next rest

pub entry_on : (n k content : ℕ) (form : Form) (formats next bytes rest : List ℕ) (total : Option (List ℕ)) → k < n
    → field_in formats ≡ Some (content, form, next) → behind_field form bytes ≡ Some rest
    → behind_entry (n - k) formats bytes ≡ total → behind_entry (n - (k + 1)) next rest ≡ total
entry_on n k content form formats next bytes rest total below read passed so_far =
    sym (ap (λ (m : ℕ). behind_entry m formats bytes) (one_left n k below)
    ∙ ap (λ (r : Fields). r >>= after_field (n - (k + 1)) bytes) read
    ∙ ap (λ (r : Option (List ℕ)). r >>= λ b. behind_entry (n - (k + 1)) next b) passed)
    ∙ so_far

pub entries_on : (n k width : ℕ) (formats bytes rest : List ℕ) (total : Option (List ℕ)) → k < n
    → behind_entry width formats bytes ≡ Some rest
    → behind_entries (n - k) width formats bytes ≡ total → behind_entries (n - (k + 1)) width formats rest ≡ total
entries_on n k width formats bytes rest total below passed so_far =
    sym (ap (λ (m : ℕ). behind_entries m width formats bytes) (one_left n k below)
    ∙ ap (λ (r : Option (List ℕ)). r >>= λ b. behind_entries (n - (k + 1)) width formats b) passed)
    ∙ so_far

-- without fields
pub entries_blank : (n : ℕ) (formats bytes : List ℕ) → behind_entries n 0 formats bytes ≡ Some bytes
entries_blank zero formats bytes = refl
entries_blank (suc n) formats bytes = entries_blank n formats bytes

pub entries_blank_at : (n width : ℕ) (formats bytes : List ℕ) → width ≡ 0 → behind_entries n width formats bytes ≡ Some bytes
entries_blank_at n width formats bytes none =
    ap (λ (w : ℕ). behind_entries n w formats bytes) none ∙ entries_blank n formats bytes

abbrev after_path : List ℕ → ℕ → List ℕ → ℕ × Form × List ℕ → Option (List ℕ)
after_path strings n bytes (content, form, next) =
    if content == 1 then string_field strings form bytes else behind_field form bytes >>= λ rest. path_in strings n next rest

one_more : (strings : List ℕ) (n k content : ℕ) (form : Form) (formats next bytes : List ℕ) → k < n
    → field_in formats ≡ Some (content, form, next) → (content == 1) ≡ false
    → path_in strings (n - k) formats bytes ≡ (behind_field form bytes >>= λ rest. path_in strings (n - (k + 1)) next rest)
one_more strings n k content form formats next bytes below read other =
    ap (λ (m : ℕ). path_in strings m formats bytes) (one_left n k below)
    ∙ ap (λ (r : Fields). r >>= after_path strings (n - (k + 1)) bytes) read
    ∙ ap (λ (b : Bool). if b then string_field strings form bytes else behind_field form bytes >>= λ rest. path_in strings (n - (k + 1)) next rest) other

pub path_on : (strings : List ℕ) (n k content : ℕ) (form : Form) (formats next bytes rest : List ℕ) (total : Option (List ℕ)) → k < n
    → field_in formats ≡ Some (content, form, next) → (content == 1) ≡ false → behind_field form bytes ≡ Some rest
    → path_in strings (n - k) formats bytes ≡ total → path_in strings (n - (k + 1)) next rest ≡ total
path_on strings n k content form formats next bytes rest total below read other passed so_far =
    sym (one_more strings n k content form formats next bytes below read other
    ∙ ap (λ (r : Option (List ℕ)). r >>= λ b. path_in strings (n - (k + 1)) next b) passed)
    ∙ so_far

pub path_cut : (strings : List ℕ) (n k content : ℕ) (form : Form) (formats next bytes : List ℕ) (total : Option (List ℕ)) → k < n
    → field_in formats ≡ Some (content, form, next) → (content == 1) ≡ false → behind_field form bytes ≡ None
    → path_in strings (n - k) formats bytes ≡ total → total ≡ None
path_cut strings n k content form formats next bytes total below read other passed so_far =
    sym so_far ∙ one_more strings n k content form formats next bytes below read other
    ∙ ap (λ (r : Option (List ℕ)). r >>= λ b. path_in strings (n - (k + 1)) next b) passed
