pub mod Items
pub mod Echoes
