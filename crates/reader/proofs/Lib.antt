mod Spelled
mod Turnings
mod Depths
mod Legal
mod Replacing
mod Keeping
mod Settling
mod Noting
mod Skimming
mod Known
mod Figures
mod Lines
mod AtEnd
mod OnWay
mod Ways
mod Writing
pub mod Taken
