-- The proofs that the reals are those of IEEE 754. `Reals` has the theorem, `Operators` and `Formats` what follows for evaluation; the others are what it rests on.
pub mod Rounding
pub mod Values
pub mod Operations
pub mod Encodings
pub mod Reals
pub mod Operators
pub mod Formats
pub mod Conversions
pub mod Narrowing
pub mod Singles
pub mod Examples
