pub mod Octets
pub mod Output
