-- Laws of the check of a rule set, and of the rule sets that the code has.
pub mod Judged
pub mod Known
