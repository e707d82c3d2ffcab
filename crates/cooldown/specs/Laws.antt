pub mod Cooldowns
