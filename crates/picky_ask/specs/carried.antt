pub mod Operation
pub mod Table
pub mod Tests
pub mod Completion
