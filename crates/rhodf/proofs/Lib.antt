-- The order of graphs, the graph of rows with a row added, and drawing a conclusion.
pub mod Graphs
pub mod Growing
pub mod Drawing
-- What is shown of closures, for every set of rules.
pub mod LeastAgree
pub mod TablesAgree
pub mod ClosedStays
pub mod Larger
pub mod NoMoreRows
pub mod Deciding
pub mod Together
pub mod ClosureInduction
pub mod ExistsFor
pub mod YearByYear
pub mod Readings
pub mod Years
-- What is shown for the rules of rho-df, and of each rule set.
pub mod RulesDecided
pub mod SetsDecided
pub mod Exists
-- The bench examples, by tests that compute.
pub mod Checking
pub mod DrawnClosure
pub mod ExamplesHold
pub mod YearExamplesHold
