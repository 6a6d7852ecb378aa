pub mod Listed
pub mod Merged
pub mod ClashListLaws
pub mod Shelves
