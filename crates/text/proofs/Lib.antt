pub mod Numerals
mod LineParts
