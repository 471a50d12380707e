pub mod Outcomes
pub mod Checked
pub mod Clauses
pub mod Upto
pub mod Verdicts
pub mod Rows
mod OpenTables
mod Carried
mod Shown
mod Judged
mod Reported
mod Forked
mod Edited
mod Settled
mod Taken
mod Retired
