pub mod ThreadSharingLemmas
