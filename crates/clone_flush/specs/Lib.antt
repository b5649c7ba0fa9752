pub mod Flights
pub mod Calls
