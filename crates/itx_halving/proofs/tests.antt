-- The number of a stage, test by test.
mod Laws
