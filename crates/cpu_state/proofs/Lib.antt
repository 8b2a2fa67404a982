mod Examples
mod SetBits
