mod Pairs
mod Splits
mod Gathered
mod FirstLists
mod Ends
