mod Along
mod Whole
