pub mod Totals
pub mod Prefixes
pub mod Keeps
pub mod Calls
pub mod Ends
pub mod Fronts
