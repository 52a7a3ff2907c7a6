pub mod Requests
pub mod Reply
pub mod Kept
pub mod Turns
pub mod Sessions
pub mod Examples
