pub mod LeftOut
pub mod Grammar
pub mod Reading
