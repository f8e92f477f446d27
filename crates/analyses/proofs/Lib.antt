pub mod ConstantSteps
pub mod ConstantEdits
pub mod LivenessSteps
pub mod Replacing
