pub mod GuidSlots
pub mod PooledSets
pub mod Stocked
pub mod SurfacePieces
