pub mod TextLemmas
pub mod PrintLemmas
pub mod RunLemmas
pub mod EndLemmas
pub mod KeepLemmas
pub mod Endings
