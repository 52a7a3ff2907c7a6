-- What the crate's contracts say.
pub mod Codes
pub mod Sits
pub mod Judges
pub mod Laid
