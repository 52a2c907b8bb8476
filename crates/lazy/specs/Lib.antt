pub mod Lazily
