-- `Finding`: what the kit's search for a zero byte finds.
mod Finding
