pub mod First
pub mod Numerals
pub mod Simple
pub mod Taken
pub mod Tables
pub mod Named
