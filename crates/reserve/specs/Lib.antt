pub mod Reserve
pub mod Laws
