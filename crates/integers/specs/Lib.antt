-- What every layer above counts with: whole numbers, finite sums, and the lists that a kernel leaves.
pub mod Z
pub mod Sum
pub mod Or
pub mod Lists
