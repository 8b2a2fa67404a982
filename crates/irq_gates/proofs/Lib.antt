pub mod LineChanges
