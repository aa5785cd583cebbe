pub mod SimpleExact
pub mod ClauseExact
pub mod StatementEquations
pub mod StatementLoops
pub mod StatementExact
