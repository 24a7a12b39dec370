pub mod Comparing
pub mod Those
pub mod Sinks
pub mod Firsts
pub mod Implied
pub mod Analysing
