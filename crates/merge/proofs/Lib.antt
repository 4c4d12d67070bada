mod Searching
mod Placing
