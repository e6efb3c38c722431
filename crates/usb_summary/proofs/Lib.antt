mod Counting
mod Undriven
mod Served
mod Entries
mod Runs
pub mod Totals
