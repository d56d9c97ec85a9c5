-- How a call of SAD ends once its blocks are compared.
pub mod Ends
