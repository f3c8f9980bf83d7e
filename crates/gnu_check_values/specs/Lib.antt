pub mod Blooms
