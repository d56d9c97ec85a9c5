-- Laws of the lines that are gathered.
mod Places
