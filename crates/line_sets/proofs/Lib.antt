pub mod LineSetLemmas
