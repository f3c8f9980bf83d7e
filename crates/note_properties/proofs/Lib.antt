-- `GnuName`: a name held against `GNU`.
mod GnuName
