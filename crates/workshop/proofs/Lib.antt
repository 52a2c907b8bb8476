mod Pulling
mod Fronts
mod Faults
mod Limits
