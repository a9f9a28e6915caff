pub mod Cutting
pub mod Mnemonics
pub mod Numbers
pub mod Operand
pub mod Lines
pub mod Refused
pub mod Parts
pub mod Texts
