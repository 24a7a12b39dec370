pub mod Runs
pub mod Searches
pub mod Listing
pub mod Copying
pub mod Linking
pub mod Claiming
pub mod Deciding
pub mod Chaining
