pub mod AlgorithmName
pub mod State
pub mod IsState
pub mod Call
pub mod Bare
pub mod Secret
