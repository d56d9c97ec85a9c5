-- Jobs on one buffer, of any kind: read Positions, then Jobs, then Theatres. The theorems stand in proofs/.
pub mod Positions
pub mod Jobs
pub mod Theatres
