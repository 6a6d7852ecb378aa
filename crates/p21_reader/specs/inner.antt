pub mod Heading
pub mod Tabling
pub mod TokenReading
pub mod ValueNesting
