pub mod CommandEquations
pub mod EqualLemmas
pub mod OperandLemmas
pub mod Acts
pub mod ItemLemmas
