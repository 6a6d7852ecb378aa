pub mod CornerFrames
pub mod EarNotes
pub mod Fans
