-- The order of rows, in the document's words. Where terms are 16-bit numbers it is the order of the rows' keys (`key-order`).
use Rattle.std.specs.Prelude.{◌≡◌, ◌⊎◌, ℕ, suc, ◌<◌}
use Rattle.table.specs.Rows.{Row, Lanes, row_at}

-- "ascending by subject, then predicate, then object"
abbrev pub RowBefore : Row → Row → Type 0
RowBefore x y = (x.s < y.s) ⊎ ((x.s ≡ y.s) × ((x.p < y.p) ⊎ ((x.p ≡ y.p) × (x.o < y.o))))

-- "The first 'count' rows are .. strictly ascending"
abbrev pub RowsAscend : Lanes → ℕ → Type 0
RowsAscend l n = (i : ℕ) → suc i < n → RowBefore (row_at l i) (row_at l (suc i))
