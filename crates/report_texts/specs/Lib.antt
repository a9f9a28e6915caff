pub mod Hex
pub mod FaultNames
pub mod ScriptRefusal
