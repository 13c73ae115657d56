pub mod Room
pub mod Loans
pub mod Lending
pub mod Units
pub mod Instances
