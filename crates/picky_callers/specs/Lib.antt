pub mod Login
pub mod Issued
pub mod PuttyFile
pub mod Alone
pub mod SignedReply
pub mod Undecided
pub mod Entered
