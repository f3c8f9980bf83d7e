-- `Steps`: a reader at its end.
mod Steps
