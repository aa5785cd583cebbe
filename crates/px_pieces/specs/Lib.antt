pub mod Found
pub mod Pieces
pub mod Desk
pub mod Histories
pub mod WorkedHistories
