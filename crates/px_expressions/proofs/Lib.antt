pub mod ConstantLemmas
pub mod ExactTools
pub mod FrontLemmas
pub mod ListExact
pub mod TypeExact
pub mod ExpressionExact
pub mod UnaryEquations
pub mod Loops
