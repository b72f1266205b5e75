pub mod Lengths
pub mod Back
