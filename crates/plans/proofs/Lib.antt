-- What is due of a row that a plan meets, for any plan.
pub mod Meeting
-- How many plans a set has.
pub mod Counting
-- Plans that drive a set of rules, and that those of a rule set drive its rules.
pub mod Driven
pub mod Obeying
