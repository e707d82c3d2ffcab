pub mod Usable
pub mod Calendars
