pub mod Faults
pub mod Parts
pub mod Number
pub mod Field
