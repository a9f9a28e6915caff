pub mod Access
pub mod Declaration
pub mod Locks
pub mod Held
pub mod Kinds
pub mod Joining
