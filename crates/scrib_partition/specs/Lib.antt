pub mod Partition
pub mod PartitionLaw
