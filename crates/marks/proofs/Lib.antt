-- `Told`: what both counts of definitions say.
mod Told
