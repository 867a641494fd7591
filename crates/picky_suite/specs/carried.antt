pub mod Meanings
pub mod Zeros
pub mod Bytes
pub mod ToyCipher
pub mod ToyDerivation
