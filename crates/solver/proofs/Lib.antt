pub mod Asking
pub mod Editing
pub mod Validity
pub mod Replaying
