pub mod BondSet
pub mod Crossing
pub mod FlatTables
pub mod SetFault
pub mod UsualSet
