pub mod MemoryLemmas
pub mod ByteArrayLemmas
pub mod CauseLemmas
mod UnreadLemmas
mod LengthFirstLemmas
pub mod StopLemmas
pub mod WriteLemmas
pub mod ThenLemmas
pub mod ListLemmas
mod FieldLemmas
