pub mod Roles
pub mod Pieces
pub mod Scan
pub mod Items
pub mod First
