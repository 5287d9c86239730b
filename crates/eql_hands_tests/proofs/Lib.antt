mod Hubs
mod Searched
