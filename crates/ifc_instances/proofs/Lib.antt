pub mod CodedEntities
pub mod Scans
pub mod Rising
pub mod LedTo
