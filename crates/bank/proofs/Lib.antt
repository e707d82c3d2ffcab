pub mod Firsts
pub mod Spans
pub mod Filled
pub mod Tables
pub mod Layers
pub mod Rising
pub mod Called
