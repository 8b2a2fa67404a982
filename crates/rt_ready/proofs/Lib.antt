mod Firsts
mod Gathered
mod Greatest
mod Members
mod Moved
mod Numbers
mod Scanning
