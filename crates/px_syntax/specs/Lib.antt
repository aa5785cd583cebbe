pub mod ExpressionTree
pub mod StatementTree
pub mod ItemTree
pub mod NameBytes
pub mod ParsedTree
pub mod TypedTree
pub mod TypedViews
pub mod ProgramTree
