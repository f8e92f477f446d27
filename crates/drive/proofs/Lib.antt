pub mod Tables
pub mod Checks
pub mod Programs
pub mod Wrapping
pub mod Drafts
