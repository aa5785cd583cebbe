pub mod Tools
pub mod HeldExact
pub mod ChainExact
pub mod OperandExact
pub mod CastExact
pub mod ExpressionExact
