pub mod SimpleReading
pub mod SimpleGrammar
pub mod StatementReading
pub mod StatementGrammar
