pub mod Operations
pub mod Sweeps
pub mod Lines
pub mod Examples
