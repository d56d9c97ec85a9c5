-- Stage two by blocks of 16 lines: what a block's sums are.
pub mod Products
