pub mod Bytes
pub mod First
pub mod InOrder
pub mod Kinds
pub mod Lent
pub mod Printed
pub mod Refusals
pub mod Word
