pub mod RuleTrees
pub mod VersionTrees
pub mod ClashTrees
