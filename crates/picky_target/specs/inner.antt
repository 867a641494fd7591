pub mod Public
pub mod Envelope
pub mod File
pub mod Lengths
