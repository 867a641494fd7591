pub mod Entry
pub mod State
pub mod LedgerText
pub mod Apply
pub mod Runs
pub mod Replies
pub mod Run
pub mod inner
