pub mod NumberWords
pub mod CommandOptions
