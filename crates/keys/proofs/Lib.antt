mod Differences
mod Masks
