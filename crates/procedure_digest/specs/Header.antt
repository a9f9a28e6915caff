-- Which procedures are loaded, in the header of a log's file.
use Rattle.std.specs.Prelude.{None, length}
use Rattle.sha2.specs.Sha256.{sha256}
use Rattle.tc_core.specs.Loaded.{Loaded}
use Rattle.log_file.specs.declared.header.Header.{Header}
use Rattle.procedure_digest.specs.Bytes.{procedures_bytes}

-- how many data components and procedures there are, and the digest of the procedures' bytes; no session
abbrev pub header_of : Loaded → Header
header_of l = record { dcs = l.dcs; procedures = length l.codes; digest = sha256 (procedures_bytes l.codes); session = None }
