pub mod Begun
pub mod Kept
pub mod Put
pub mod Steps
pub mod Stops
