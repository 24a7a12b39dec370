pub mod Model
pub mod Report
pub mod Certificate
pub mod ChainValue
