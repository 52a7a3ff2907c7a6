pub mod Admitted
pub mod Constants
pub mod MainCycle
