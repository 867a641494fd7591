pub mod Frame
pub mod Run
pub mod Served
pub mod Ending
pub mod ExitCode
pub mod inner
