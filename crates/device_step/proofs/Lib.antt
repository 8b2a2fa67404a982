pub mod Dividing
pub mod Ports
pub mod RaisedLines
pub mod Asked
pub mod Marked
pub mod Machines
