pub mod Layers
pub mod Numbers
