pub mod Laws
pub mod Holding
pub mod Answered
