pub mod Faults
pub mod Filed
pub mod Pages
