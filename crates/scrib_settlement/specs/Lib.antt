pub mod Shares
pub mod Mismatches
pub mod Settled
pub mod Tallies
