-- `Reading`: a name can be read exactly if it starts below `readable_end`.
mod Reading
