pub mod Table
pub mod Decoded
pub mod ReadBack
pub mod Starred
