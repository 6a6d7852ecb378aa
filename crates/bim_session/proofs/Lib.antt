pub mod Talks
pub mod ShelfReplies
pub mod Reading
pub mod Sessions
pub mod Pending
