mod Counting
mod Newly
mod PairSums
mod Parting
mod Performing
mod Stored
mod Walking
mod Writing
