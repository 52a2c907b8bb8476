pub mod Simulation
pub mod Outcomes
pub mod Composition
