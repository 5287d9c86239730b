mod LineLemmas
mod InputLemmas
mod SearchLemmas
mod ListingLemmas
