pub mod Numbers
pub mod Splits
pub mod Positions
pub mod Readers
pub mod Parts
