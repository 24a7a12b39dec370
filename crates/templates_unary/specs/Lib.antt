-- Meaning: the automaton of each template.
pub mod AtMostOne
pub mod Counted
pub mod End
pub mod Init
pub mod Participation
-- Internal: that each automaton accepts the traces that keep its template, and that its counters tell its places.
pub mod AtMostOneLaw
pub mod CountedLaw
pub mod EndLaw
pub mod InitLaw
pub mod ParticipationLaw
