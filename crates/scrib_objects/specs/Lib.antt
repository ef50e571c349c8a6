pub mod Objects
pub mod ExchangeObjects
pub mod ExchangeMembers
