pub mod Own
pub mod Known
pub mod Ahead
pub mod Defaults
pub mod Ready
pub mod Inputs
