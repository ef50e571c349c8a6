pub mod EventLines
pub mod ShownLines
pub mod Pages
pub mod Offence
pub mod ChartLines
pub mod Charts
pub mod Shown
pub mod Progress
