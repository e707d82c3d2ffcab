pub mod Tests
pub mod Layers
pub mod Evens
