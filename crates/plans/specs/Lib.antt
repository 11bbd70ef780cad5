-- The definitions that the contracts of `plans`, and of the rounds that carry plans out, cite.
pub mod Plans
