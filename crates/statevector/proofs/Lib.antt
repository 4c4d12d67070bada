mod Meeting
mod Scanning
