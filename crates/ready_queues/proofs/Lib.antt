mod Bits
mod Keys
mod Links
mod Lists
mod Walks
