-- `Lengths`: the length of the symbol table, step by step.
mod Lengths
