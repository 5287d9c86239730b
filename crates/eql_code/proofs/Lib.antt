mod Settled
mod Prepared
mod Operands
mod Runs
mod Free
mod Emitting
