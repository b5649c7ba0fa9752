pub mod Words
pub mod Transactions
