pub mod Lists
pub mod Arrays
pub mod Encode
pub mod Help
pub mod Lent
