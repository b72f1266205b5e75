pub mod Choosing
pub mod Claim
