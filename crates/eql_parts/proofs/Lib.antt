mod Played
mod Living
mod Delivered
mod Settled
