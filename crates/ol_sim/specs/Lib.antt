pub mod Calls
pub mod Judging
pub mod Starting
pub mod Answering
pub mod Serving
