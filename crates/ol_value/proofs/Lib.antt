pub mod Backs
pub mod Widths
pub mod TypeCodes
pub mod OpCodes
pub mod Digits
