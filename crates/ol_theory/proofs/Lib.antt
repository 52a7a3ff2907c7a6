pub mod Members
pub mod OrderProof
pub mod SystemProof
pub mod RelistProof
pub mod Applied
