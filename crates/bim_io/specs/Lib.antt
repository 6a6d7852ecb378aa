pub mod Causes
pub mod StreamViews
pub mod MemoryStreams
pub mod Writes
