-- `Starts`, `Ruled`, `Wrong`: G9 by runs, after G7; `Lasts`: G10 and the longest chain by runs, after G9; `Least`, the
-- least number of which something holds. `Judged`: the answer.
mod Judged
mod Lasts
mod Least
mod Ruled
mod Starts
mod Wrong
