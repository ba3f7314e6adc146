pub mod Calls
pub mod Meaning
pub mod Model
pub mod KindGiven
pub mod Reading
pub mod Refusals
pub mod Alone
