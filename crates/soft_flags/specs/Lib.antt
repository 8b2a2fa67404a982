pub mod SoftFlags
