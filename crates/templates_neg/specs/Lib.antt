-- Meaning: the automata. NotRespondedExistence shares that of NotCoExistence; NotResponse and NotPrecedence that of NotSuccession;
-- NotChainResponse and NotChainPrecedence that of NotChainSuccession.
pub mod NotChainSuccession
pub mod NotCoExistence
pub mod NotSuccession
-- Internal: that each automaton accepts the traces that keep its templates, and that its counters tell its places.
pub mod NotChainSuccessionLaw
pub mod NotCoExistenceLaw
pub mod NotSuccessionLaw
pub mod OneSidedLaws
