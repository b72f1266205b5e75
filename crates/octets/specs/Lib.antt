pub mod Read
pub mod Bytes
pub mod Same
