-- L6: "The five, by bytes after unescaping", as lists of bytes.
use Rattle.std.specs.Prelude.{List, [], ◌∷◌, ℕ, zero, suc}

-- http://www.w3.org/2000/01/rdf-schema#
unfoldable pub rdf_schema : List ℕ → List ℕ
rdf_schema name = 104 ∷ 116 ∷ 116 ∷ 112 ∷ 58 ∷ 47 ∷ 47 ∷ 119 ∷ 119 ∷ 119 ∷ 46 ∷ 119 ∷ 51 ∷ 46 ∷ 111 ∷ 114 ∷ 103 ∷ 47 ∷ 50 ∷ 48 ∷ 48 ∷ 48 ∷ 47 ∷ 48 ∷ 49 ∷ 47 ∷ 114 ∷ 100 ∷ 102 ∷ 45 ∷ 115 ∷ 99 ∷ 104 ∷ 101 ∷ 109 ∷ 97 ∷ 35 ∷ name

-- http://www.w3.org/1999/02/22-rdf-syntax-ns#
unfoldable pub rdf_syntax : List ℕ → List ℕ
rdf_syntax name = 104 ∷ 116 ∷ 116 ∷ 112 ∷ 58 ∷ 47 ∷ 47 ∷ 119 ∷ 119 ∷ 119 ∷ 46 ∷ 119 ∷ 51 ∷ 46 ∷ 111 ∷ 114 ∷ 103 ∷ 47 ∷ 49 ∷ 57 ∷ 57 ∷ 57 ∷ 47 ∷ 48 ∷ 50 ∷ 47 ∷ 50 ∷ 50 ∷ 45 ∷ 114 ∷ 100 ∷ 102 ∷ 45 ∷ 115 ∷ 121 ∷ 110 ∷ 116 ∷ 97 ∷ 120 ∷ 45 ∷ 110 ∷ 115 ∷ 35 ∷ name

-- 0 subPropertyOf, 1 subClassOf, 2 type, 3 domain, 4 range
unfoldable pub five_text : ℕ → List ℕ
five_text zero = rdf_schema (115 ∷ 117 ∷ 98 ∷ 80 ∷ 114 ∷ 111 ∷ 112 ∷ 101 ∷ 114 ∷ 116 ∷ 121 ∷ 79 ∷ 102 ∷ [])
five_text (suc zero) = rdf_schema (115 ∷ 117 ∷ 98 ∷ 67 ∷ 108 ∷ 97 ∷ 115 ∷ 115 ∷ 79 ∷ 102 ∷ [])
five_text (suc (suc zero)) = rdf_syntax (116 ∷ 121 ∷ 112 ∷ 101 ∷ [])
five_text (suc (suc (suc zero))) = rdf_schema (100 ∷ 111 ∷ 109 ∷ 97 ∷ 105 ∷ 110 ∷ [])
five_text (suc (suc (suc (suc n)))) = rdf_schema (114 ∷ 97 ∷ 110 ∷ 103 ∷ 101 ∷ [])
