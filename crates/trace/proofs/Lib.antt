mod Putting
mod Filling
mod Spelling
