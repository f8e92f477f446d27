pub mod Faults
pub mod Filed
pub mod Calls
pub mod Claim
