pub mod Arithmetic
pub mod Form
pub mod Memory
pub mod Step
pub mod Reach
pub mod Instruction
pub mod Row
