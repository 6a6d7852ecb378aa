pub mod SpelledTriples
pub mod Walks
