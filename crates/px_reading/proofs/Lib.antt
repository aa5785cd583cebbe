mod Within
pub mod OneReading
pub mod SomeReading
