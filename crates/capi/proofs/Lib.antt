-- Laws that the exports share.
pub mod Laws
pub mod Done
