mod Estimating
mod Walking
