pub mod Flaws
pub mod Moment
pub mod Principals
