pub mod Keeping
pub mod Fitting
pub mod Grows
pub mod Prefixes
pub mod Listing
