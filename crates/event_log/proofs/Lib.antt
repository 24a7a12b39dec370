pub mod Alphabets
pub mod Appearing
pub mod Cuts
pub mod Logging
pub mod Naming
pub mod Numbering
