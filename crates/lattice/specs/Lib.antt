pub mod Kinds
pub mod Constants
pub mod Sets
pub mod ConstantLaws
pub mod Order
pub mod SetLaws
pub mod Words
pub mod Shown
