pub mod Cipher
pub mod Kdf
