pub mod Steps
pub mod Leading
pub mod Follows
pub mod Courses
pub mod Values
pub mod Answers
pub mod Laws
