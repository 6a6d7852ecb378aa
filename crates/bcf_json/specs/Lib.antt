pub mod Objects
pub mod JsonTexts
