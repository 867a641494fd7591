pub mod FieldNumbers
pub mod Fields
