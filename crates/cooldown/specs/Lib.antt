pub mod Cooldown
pub mod Laws
