pub mod FilterSteps
pub mod OrderSteps
pub mod PageFronts
