pub mod Sizes
pub mod Packet
