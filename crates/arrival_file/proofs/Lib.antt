pub mod Headers
pub mod Fronts
pub mod Pieces
pub mod Faults
