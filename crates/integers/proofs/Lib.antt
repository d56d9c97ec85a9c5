-- The laws that every layer above proves with: `use Rattle.integers.proofs.Ring.{..}` in a crate that lists integers.

-- whole numbers
pub mod Dif
pub mod Ring
pub mod Order
pub mod Bound
pub mod Floor
pub mod Bits
pub mod Clip
pub mod Parts
-- sums and lists, and the loops that make them
pub mod Sum
pub mod Written
pub mod Loop
pub mod Grid
-- tests: what they come out as, and those that antt computes
pub mod Bools
pub mod Every
-- straight-line machine code, and identities of whole numbers, by reflection
pub mod Expr
pub mod Poly
