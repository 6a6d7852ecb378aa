pub mod Kinds
pub mod TokenSpans
