pub mod Pairs
pub mod Algorithm
pub mod Numbers
