pub mod Firsts
pub mod Arrived
pub mod Waiting
pub mod Behind
pub mod Run
mod Flattening
