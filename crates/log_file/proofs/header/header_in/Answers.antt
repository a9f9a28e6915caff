use Rattle.std.proofs.Common.{◌≡◌, ◌<◌, ◌^◌, take, drop, rules}
use Rattle.std.specs.Int.{w64, from_le_bytes}
use Rattle.log_file.specs.Joining.Fields.{session_in}
use Rattle.log_file.proofs.HeaderLemmas.{same_header, short_none, many_none}
use Rattle.log_file.proofs.header.header_in.Goals as goal

pub returns-then-bytes-lt64-clause-none : goal.returns-then-bytes-lt64-clause-none
returns-then-bytes-lt64-clause-none c = short_none c.args.bytes.now c.if-bytes-lt64.true

pub returns-in_default-clause-none : goal.returns-in_default-clause-none
returns-in_default-clause-none c =
    let said : c.long.result ≡ from_le_bytes w64 (take 8 (drop 16 c.args.bytes.now)) = c.long.ensures in
    let many : c.long.result < 2 ^ 16 → ⊥ = search rules in
    many_none c.args.bytes.now c.long.result said many

pub returns-clause-fields : goal.returns-clause-fields
returns-clause-fields c =
    let bytes = c.args.bytes.now in
    let dcs : c.in-Ok.dcs ≡ from_le_bytes w64 (take 8 (drop 16 c.args.bytes.now)) = search rules in
    let procedures : c.long-2.result ≡ from_le_bytes w64 (take 8 (drop 24 c.args.bytes.now)) = c.long-2.ensures in
    let session : c.in_ok-session.session ≡ session_in c.args.bytes.now = c.in_ok-session.ensures.field in
    let digest : c.copy_from_slice.new.self ≡ take 32 (drop 32 c.args.bytes.now) = search rules in
    same_header c.in-Ok.dcs (from_le_bytes w64 (take 8 (drop 16 bytes))) c.long-2.result (from_le_bytes w64 (take 8 (drop 24 bytes))) c.copy_from_slice.new.self
    (take 32 (drop 32 bytes)) c.in_ok-session.session (session_in bytes) dcs procedures digest session
