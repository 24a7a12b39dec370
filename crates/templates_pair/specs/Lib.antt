-- Meaning: the automaton of each template.
pub mod AlternatePrecedence
pub mod AlternateResponse
pub mod AlternateSuccession
pub mod ChainPrecedence
pub mod ChainResponse
pub mod ChainSuccession
pub mod CoExistence
pub mod Precedence
pub mod RespondedExistence
pub mod Response
pub mod Succession
-- Internal: that each automaton accepts the traces that keep its template, and that its counters tell its places.
pub mod AlternatePrecedenceLaw
pub mod AlternateResponseLaw
pub mod AlternateSuccessionLaw
pub mod ChainPrecedenceLaw
pub mod ChainResponseLaw
pub mod ChainSuccessionLaw
pub mod CoExistenceLaw
pub mod PrecedenceLaw
pub mod RespondedExistenceLaw
pub mod ResponseLaw
pub mod SuccessionLaw
