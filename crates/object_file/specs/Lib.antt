pub mod Elf
pub mod Gathering
pub mod Accesses
pub mod Object
pub mod LineSections
pub mod Referring
