pub mod Questions
pub mod Examples
