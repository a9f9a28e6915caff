pub mod Numbers
pub mod Gathering
pub mod Loops
pub mod EachSection
