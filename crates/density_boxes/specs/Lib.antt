pub mod Halvings
