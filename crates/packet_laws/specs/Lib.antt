pub mod Asked
pub mod Refused
pub mod Rewritten
pub mod WrittenBack
