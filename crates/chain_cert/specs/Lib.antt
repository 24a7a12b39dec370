-- Meaning: what claims and chains are made of, and their forms; the four checks; what a right certificate says, by traces alone.
pub mod Parts
pub mod Links
pub mod Traces
pub mod Tables
pub mod Forms
pub mod Checks
pub mod Soundness
-- Internal: symbols that step alike.
pub mod Alike
