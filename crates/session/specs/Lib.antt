pub mod Rules
pub mod Running
pub mod Room
pub mod OneFact
