pub mod LineSet
