mod FitLemmas
mod GateLemmas
mod Going
mod JsonLemmas
mod KeyLemmas
mod Printing
mod RangeLemmas
pub mod Wholes
mod WriteLemmas
