pub mod Ring
pub mod Triples
pub mod Order
pub mod Ranges
