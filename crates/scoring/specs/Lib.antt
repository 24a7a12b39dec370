-- what the public clauses mean
pub mod Scores
pub mod Candidates
pub mod Priority
pub mod Conditions
-- internal: the search
pub mod Found
pub mod Search
pub mod Scorable
