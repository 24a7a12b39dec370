pub mod Alphabet
pub mod Log
pub mod Logs
pub mod Within
