pub mod Topics
pub mod Comments
pub mod Discussions
