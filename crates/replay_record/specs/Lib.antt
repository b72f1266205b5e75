pub mod Beginning
pub mod Handling
