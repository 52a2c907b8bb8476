mod NextStations
mod Formed
