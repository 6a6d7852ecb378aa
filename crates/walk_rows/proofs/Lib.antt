mod EarRows
mod FacesNamed
mod FacesAgain
pub mod IndexesNamed
mod Pooled
mod RingsRead
pub mod RowsCounted
pub mod RowsNamed
mod SetsRead
mod ShortIndexes
