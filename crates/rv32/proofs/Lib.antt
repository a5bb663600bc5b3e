mod Runs
mod Stops
mod Zero
