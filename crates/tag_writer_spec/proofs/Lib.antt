-- Laws of the writer's definitions.
pub mod Records
pub mod Sides
pub mod Tests
pub mod Answers
