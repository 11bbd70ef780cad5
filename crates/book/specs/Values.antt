-- Books, and what reading them into 8 rows comes to.
-- Measured values (C-17): a book of kind 3 whose one field, at byte 7, has such terms. Heads of both editions (C-23).
use Rattle.std.specs.Prelude.{◌≡◌, List, [], ◌∷◌, ◌++◌, ℕ, replicate}
use Rattle.term.specs.Refusal.{verdict}
use Rattle.term.specs.Term.{milliamps}
use Rattle.ruleset.specs.RuleSet.{basic_set, reflexive_set}
use Rattle.table.specs.Rows.{row}
use Rattle.book.specs.Format.{book_bytes}
use Rattle.book.specs.Reading.{Read, refused, read_as, read_book}

-- the head, then tag 3, length 14, the six bytes of the terms and an annotation below 65,536
abbrev pub book_of : List ℕ → ℕ → ℕ → List ℕ
book_of terms high low = 1 ∷ 0 ∷ 4 ∷ 1 ∷ 3 ∷ 0 ∷ 0 ∷ 3 ∷ 0 ∷ 14 ∷ (terms ++ (replicate 6 0 ++ (high ∷ low ∷ [])))

abbrev pub ReadsTo : List ℕ → ℕ → ℕ → Read → Type 0
ReadsTo terms high low r = read_book (book_of terms high low) 8 ≡ r

-- 1. "000A 0014 C1F4: (10 20 500 mA), done"
-- 2. "FFFE 0014 C000: done": the largest value as subject, the smallest as object
-- 3. "000A C000 FFFF: 9 (book)": the predicate comes before the object
-- 4. "000A FFFF 000B: 8"
-- 5. "000A 0014 FFFF 0..0: 8, not 10"
abbrev pub ValuesInBooks : List (Type 0)
ValuesInBooks =
    ReadsTo (0x00 ∷ 0x0A ∷ 0x00 ∷ 0x14 ∷ 0xC1 ∷ 0xF4 ∷ []) 0x03 0x20 (read_as 3 0 basic_set (row 10 20 (milliamps 500) 800 ∷ []))
    ∷ ReadsTo (0xFF ∷ 0xFE ∷ 0x00 ∷ 0x14 ∷ 0xC0 ∷ 0x00 ∷ []) 0x03 0x20 (read_as 3 0 basic_set (row (milliamps 16382) 20 (milliamps 0) 800 ∷ []))
    ∷ ReadsTo (0x00 ∷ 0x0A ∷ 0xC0 ∷ 0x00 ∷ 0xFF ∷ 0xFF ∷ []) 0x03 0x20 (refused (verdict 9 7))
    ∷ ReadsTo (0x00 ∷ 0x0A ∷ 0xFF ∷ 0xFF ∷ 0x00 ∷ 0x0B ∷ []) 0x03 0x20 (refused (verdict 8 7))
    ∷ ReadsTo (0x00 ∷ 0x0A ∷ 0x00 ∷ 0x14 ∷ 0xFF ∷ 0xFF ∷ []) 0x00 0x00 (refused (verdict 8 7))
    ∷ []

-- tag 1, the length's low byte, the value's bytes: a book of a head alone
abbrev pub HeadReadsTo : ℕ → List ℕ → Read → Type 0
HeadReadsTo size value r = read_book (1 ∷ 0 ∷ size ∷ value) 8 ≡ r

-- 1. "0005 02 01 07D0 02 done": edition 2, kind 1, base year 2000, rule set 2
-- 2. ".. 03: 36"
-- 3. "0005 01 01 07D0 01: 2", a length that edition 1 has not
-- 4. "0004 02 01 07D0: 2", one that edition 2 has not
-- 5. "0005 03 ..: 3", before its length is held against the edition
-- 6. "0006 03 ..: 2", no head's length, before the edition is looked at
-- 7. "0005 02 02 07D0 03: 4"
-- 8. "0005 02 01 0000 03: 5"
-- 9. "0005 02 01 07D0 (cut): 1"
-- "an edition 2 book of rule set 1" reads to rule set 1, "is written back as edition 1"; a book of rule set 2 as edition 2
abbrev pub HeadsOfBooks : List (Type 0)
HeadsOfBooks =
    HeadReadsTo 5 (0x02 ∷ 0x01 ∷ 0x07 ∷ 0xD0 ∷ 0x02 ∷ []) (read_as 1 2000 reflexive_set [])
    ∷ HeadReadsTo 5 (0x02 ∷ 0x01 ∷ 0x07 ∷ 0xD0 ∷ 0x03 ∷ []) (refused (verdict 36 0))
    ∷ HeadReadsTo 5 (0x01 ∷ 0x01 ∷ 0x07 ∷ 0xD0 ∷ 0x01 ∷ []) (refused (verdict 2 0))
    ∷ HeadReadsTo 4 (0x02 ∷ 0x01 ∷ 0x07 ∷ 0xD0 ∷ []) (refused (verdict 2 0))
    ∷ HeadReadsTo 5 (0x03 ∷ 0x01 ∷ 0x07 ∷ 0xD0 ∷ 0x01 ∷ []) (refused (verdict 3 0))
    ∷ HeadReadsTo 6 (0x03 ∷ 0x01 ∷ 0x07 ∷ 0xD0 ∷ 0x01 ∷ 0x01 ∷ []) (refused (verdict 2 0))
    ∷ HeadReadsTo 5 (0x02 ∷ 0x02 ∷ 0x07 ∷ 0xD0 ∷ 0x03 ∷ []) (refused (verdict 4 0))
    ∷ HeadReadsTo 5 (0x02 ∷ 0x01 ∷ 0x00 ∷ 0x00 ∷ 0x03 ∷ []) (refused (verdict 5 0))
    ∷ HeadReadsTo 5 (0x02 ∷ 0x01 ∷ 0x07 ∷ 0xD0 ∷ []) (refused (verdict 1 0))
    ∷ HeadReadsTo 5 (0x02 ∷ 0x01 ∷ 0x07 ∷ 0xD0 ∷ 0x01 ∷ []) (read_as 1 2000 basic_set [])
    ∷ (book_bytes 1 2000 basic_set [] ≡ 1 ∷ 0 ∷ 4 ∷ 0x01 ∷ 0x01 ∷ 0x07 ∷ 0xD0 ∷ [])
    ∷ (book_bytes 1 2000 reflexive_set [] ≡ 1 ∷ 0 ∷ 5 ∷ 0x02 ∷ 0x01 ∷ 0x07 ∷ 0xD0 ∷ 0x02 ∷ [])
    ∷ []
