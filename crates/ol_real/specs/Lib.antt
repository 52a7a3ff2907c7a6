pub mod Ieee754
pub mod Encoding
pub mod Holds
pub mod Operators
pub mod Kept
