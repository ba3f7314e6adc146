pub mod Place
pub mod Shape
pub mod Held
pub mod After
