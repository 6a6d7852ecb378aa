pub mod Readers
pub mod FieldReaders
pub mod EntryReaders
pub mod FrameFronts
