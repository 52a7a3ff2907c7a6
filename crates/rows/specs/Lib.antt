pub mod Rows
pub mod Examples
