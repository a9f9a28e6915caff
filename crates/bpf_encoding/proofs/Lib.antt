pub mod NoFault
pub mod Growing
pub mod Written
pub mod Named
pub mod Numbers
