pub mod Boards
pub mod TopicIdentifiers
pub mod OfClashes
