pub mod ReplyKinds
pub mod Asked
pub mod ListRequests
pub mod Responses
pub mod Answers
