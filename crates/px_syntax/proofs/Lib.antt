pub mod ExpressionEquations
pub mod ExpressionChains
pub mod StatementEquations
pub mod TypedEquations
pub mod TypedChains
pub mod Lists
