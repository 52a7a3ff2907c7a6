pub mod Calls
pub mod Fitting
pub mod Post
