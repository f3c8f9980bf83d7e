-- `Headers`: what follows from a table's header.
pub mod Headers
