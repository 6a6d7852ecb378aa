pub mod ChangeRows
pub mod Faults
pub mod StoreReads
pub mod StoreStates
