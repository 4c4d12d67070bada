mod Calling
mod Summing
