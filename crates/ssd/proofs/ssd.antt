-- How a call of SSD ends: by its tests, and once its blocks are compared.
pub mod Ends
pub mod Logs
