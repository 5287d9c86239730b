mod Bits
mod Saying
mod Comparing
mod Made
mod Fits
mod Counted
