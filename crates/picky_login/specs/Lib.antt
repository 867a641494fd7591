pub mod Trusted
pub mod Refusal
pub mod Printed
pub mod Judged
pub mod Login
