-- The definition that the contracts cite.
pub mod RuleSet
pub mod Numbered
