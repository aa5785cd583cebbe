pub mod StatementTree
pub mod Phrases
pub mod Grammar
pub mod PhraseReading
pub mod Reading
pub mod Laws
pub mod WorkedStatements
