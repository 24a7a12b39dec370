pub mod CsvLog
pub mod Kept
pub mod Number
pub mod Sorting
pub mod Walk
