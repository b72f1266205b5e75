pub mod Items
pub mod Reacting
