pub mod Lending
pub mod Eight
