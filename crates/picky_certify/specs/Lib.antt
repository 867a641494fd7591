pub mod Refusal
pub mod Texts
pub mod Certify
pub mod Certified
