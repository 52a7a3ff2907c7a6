pub mod Tables
pub mod Post
pub mod Names
pub mod Equations
pub mod Orders
pub mod Nodes
pub mod Counts
pub mod Examples
