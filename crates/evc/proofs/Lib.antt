-- Theorems about the definitions: document 01's numbers, the readings of the answers, the order of the tests, reports, jobs in any order.
pub mod Numbers
pub mod Readings
pub mod Tests
pub mod Lowest
pub mod Jobs
pub mod AnyOrder
pub mod ByTheatre
pub mod SubBlocks
pub mod Reports
pub mod Marks
pub mod Matches
