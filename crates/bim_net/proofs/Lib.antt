pub mod Keeping
pub mod NewDoors
