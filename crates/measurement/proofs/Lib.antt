mod Copying
mod Matches
mod Normalizing
mod Seeing
mod Ways
