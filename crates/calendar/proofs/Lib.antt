mod Counted
mod Words
mod Calendars
