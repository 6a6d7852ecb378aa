pub mod Onlys
pub mod StoreyMarks
pub mod TreeFaults
pub mod UpwardSteps
