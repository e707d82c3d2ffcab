pub mod Cores
pub mod Calendar
pub mod Laws
