-- What a crash leaves of a file that is begun anew, to take the place of the one that has the whole log.
use Rattle.std.specs.Prelude.{ℕ, ◌+◌, ◌==◌, Bool, true, ◌&&◌, ◌||◌, List, [], ◌∷◌, ◌++◌, length, drop}
use Rattle.std.specs.Int.{w64, to_le_bytes}
use Rattle.log_file.specs.declared.header.Header.{Header}
use Rattle.log_file.specs.Bytes.{based_version, session_bytes, own_bytes}

-- each byte, as far as there is one, is the one that was to be written, or a hole
abbrev pub are_left : List ℕ → List ℕ → Bool
are_left [] there = true
are_left (w ∷ written) [] = true
are_left (w ∷ written) (b ∷ there) = (b == w || b == 0) && are_left written there

-- the number and the length of the first frame, and behind its checksum the header, are left so
abbrev pub may_be_left : Header → List ℕ → Bool
may_be_left h bytes =
    are_left (to_le_bytes w64 0 ++ to_le_bytes w64 (72 + length (session_bytes h.session))) bytes
    && are_left (own_bytes (based_version h.session) h) (drop 24 bytes)
