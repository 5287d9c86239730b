pub mod TextBytes
pub mod Same
pub mod InOrder
pub mod Adjacent
pub mod ShownText
