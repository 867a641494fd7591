pub mod PuttyPublic
pub mod PuttyRefusal
pub mod File
pub mod FileText
pub mod FileRefusal
pub mod Written
