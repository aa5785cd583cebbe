pub mod PhraseExact
pub mod Balance
pub mod LabelExact
pub mod StatementExact
pub mod Bodies
