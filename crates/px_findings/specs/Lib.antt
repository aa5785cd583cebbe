pub mod Found
pub mod Bodies
pub mod Orders
pub mod Jobs
pub mod Analyses
pub mod Making
