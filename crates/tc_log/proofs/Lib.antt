pub mod Numbers
pub mod Again
pub mod Lengths
pub mod Only
pub mod Laying
pub mod Parts
