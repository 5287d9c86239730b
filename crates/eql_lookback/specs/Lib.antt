pub mod RoutedEvents
pub mod Places
