-- In what a log of others differs.
use Rattle.std.specs.Prelude.{ℕ, ◌==◌, Bool, true, false, if◌then◌else◌, Option, Some, None, List, ◌++◌, codes, decimal}
use Rattle.log_file.specs.declared.header.Header.{Header}

-- a number that the log has, and the script's
abbrev pub numbers_text : ℕ → ℕ → List ℕ
numbers_text log script = decimal log ++ (codes " script " ++ (decimal script ++ codes "\n"))

-- whether both have the same session, or none
abbrev pub is_same_session : Option ℕ → Option ℕ → Bool
is_same_session None None = true
is_same_session None (Some script) = false
is_same_session (Some log) None = false
is_same_session (Some log) (Some script) = log == script

-- whether both have as many data components and procedures, and the same session: only the digests may differ
abbrev pub is_same_but_digest : Header → Header → Bool
is_same_but_digest log script =
    if log.dcs == script.dcs then (if log.procedures == script.procedures then is_same_session log.session script.session else false) else false

-- of two headers that differ: the first in which they do of the number of data components, that of procedures, the session and the digest
abbrev pub other_line : Header → Header → List ℕ
other_line log script =
    if log.dcs == script.dcs then
    (if log.procedures == script.procedures then
    (if is_same_session log.session script.session then codes "refused log Other digest\n" else codes "refused log Other session\n")
    else codes "refused log Other procedures " ++ numbers_text log.procedures script.procedures)
    else codes "refused log Other dcs " ++ numbers_text log.dcs script.dcs
