-- Contents: a block of checks, within the budget.
pub mod BlockChecks
