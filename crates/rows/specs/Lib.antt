pub mod Lists
pub mod Upto
pub mod Numbered
