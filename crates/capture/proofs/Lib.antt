pub mod Laws
pub mod Locating
pub mod Window
