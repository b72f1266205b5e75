pub mod Laws
pub mod Continuing
pub mod Turning
pub mod Sliding
