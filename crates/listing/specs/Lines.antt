-- The lister's lines, and text that is put into a buffer.
use Rattle.std.specs.Prelude.{List, [], ◌++◌, ◌≡◌, ℕ, ◌+◌, eqb, length, get_or, drop}
use Rattle.algebra.specs.Generators.{pick}
use Rattle.lists.specs.Lists.{rows_of}
use Rattle.table.specs.Lister.{text, decimal, named}

-- a buffer that held a holds b: the bytes t are put from `at` on, and end at v
pub record Puts (at : ℕ) (t a b : List ℕ) (v : ℕ) : Type 0 where
  pub ends : v ≡ at + length t
  pub words : (pre d : List ℕ) → length pre ≡ at → a ≡ pre ++ drop at d → b ≡ (pre ++ t) ++ drop v d

-- the first line of a listing; a row of the matrix, by its words; the last line, by the row of the first zero pivot
abbrev pub head_line_of : (P N r s : ℕ) → List ℕ
head_line_of P N r s = named "prime" P ++ text " " ++ named "size" N ++ text " " ++ named "lower" r ++ text " " ++ named "upper" s ++ text "\n"

abbrev pub row_line : (N : ℕ) → List ℕ → List ℕ
row_line N row = rows_of N (λ j. pick (eqb j 0) [] (text " ") ++ decimal (get_or row j 0)) ++ text "\n"

abbrev pub last_line_of : (row : ℕ) → List ℕ
last_line_of row = pick (eqb row 0) (text "regular") (named "singular" row) ++ text "\n"
