pub mod Refused
pub mod Read
pub mod Starred
