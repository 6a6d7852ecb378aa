pub mod ShelfNotes
pub mod Works
pub mod Session
pub mod Replay
pub mod Talking
