pub mod Execution
pub mod CodeReport
pub mod Verification
pub mod ObjectVerification
