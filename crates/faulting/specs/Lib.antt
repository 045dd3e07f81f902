pub mod Kinds
pub mod Causes
pub mod AddressKinds
pub mod Asks
