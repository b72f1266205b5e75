pub mod Splitting
pub mod Ports
pub mod Forward
pub mod Stream
