pub mod Numbers
pub mod Register
pub mod Status
pub mod TakeIn
