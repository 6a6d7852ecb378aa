pub mod Clashes
pub mod ClashSets
pub mod OwnershipLaws
