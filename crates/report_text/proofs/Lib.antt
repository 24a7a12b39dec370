pub mod Joined
pub mod OpenTraces
mod TableRows
pub mod Written
