mod Told
mod LinesRead
