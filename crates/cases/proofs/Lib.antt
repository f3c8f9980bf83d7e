-- `Table`: the cases that document 01 marks [P]. `Unmarked`: one that stands beside them.
mod Table
mod Unmarked
