pub mod Asks
pub mod Calls
pub mod Tellings
pub mod Lines
pub mod Runs
