mod Bits
mod Leads
mod Under
mod Stepping
mod Reading
mod Opening
mod Adding
mod Walking
mod Whole
pub mod Alone
mod Clocks
pub mod TextTimes
mod Colons
mod Wholes
mod Partly
mod Events
pub mod EventTimes
