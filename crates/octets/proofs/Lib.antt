pub mod Sets
pub mod Laws
pub mod Small
pub mod Parts
