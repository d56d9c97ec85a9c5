-- The law of a row that is read in three runs.
mod Reading
