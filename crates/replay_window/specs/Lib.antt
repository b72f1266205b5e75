pub mod Printing
pub mod Windows
pub mod Turns
