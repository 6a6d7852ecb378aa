pub mod Files
pub mod FileReading
pub mod MemoryFiles
