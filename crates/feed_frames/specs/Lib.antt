pub mod FieldBytes
pub mod EntryBytes
pub mod SpelledEntries
pub mod FrameStreams
pub mod inner
