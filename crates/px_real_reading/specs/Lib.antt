pub mod Trees
pub mod Parts
pub mod Heads
pub mod Faults
pub mod WorkedExpressions
