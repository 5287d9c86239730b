pub mod FrontLemmas
pub mod TokenLemmas
pub mod ErrorLemmas
pub mod ToldLemmas
pub mod ShelfLemmas
