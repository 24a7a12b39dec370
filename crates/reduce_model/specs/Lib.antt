pub mod Keeping
pub mod Sifting
pub mod Joining
pub mod Deciding
pub mod Building
pub mod Reduction
pub mod Within
pub mod Passes
