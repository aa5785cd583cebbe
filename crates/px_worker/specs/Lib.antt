pub mod Answers
pub mod Stops
pub mod Served
pub mod Laws
pub mod Courses
