pub mod OnFlag
