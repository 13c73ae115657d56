pub mod HandleKinds
pub mod Lists
pub mod Numbers
pub mod Elementwise
