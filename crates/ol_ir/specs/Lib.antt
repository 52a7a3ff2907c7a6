pub mod Nexts
pub mod Heads
pub mod Nodes
pub mod Scans
pub mod Walks
