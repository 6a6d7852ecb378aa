pub mod Cutting
pub mod TokenSeparators
pub mod Spelling
pub mod There
pub mod inner
