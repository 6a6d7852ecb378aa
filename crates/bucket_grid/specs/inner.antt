pub mod Axes
pub mod BucketSlots
pub mod ListBlocks
