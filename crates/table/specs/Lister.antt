-- The lister: the text that it prints for the bytes that it reads, as bytes.
-- "singular K" speaks of the leading K by K corner, not of the matrix: that with rows 0 1 and 1 0 has an inverse and prints "singular 1".
use Rattle.std.specs.Prelude.{List, [], ◌∷◌, ◌++◌, ℕ, zero, suc, ◌+◌, ◌*◌, ◌/◌, ◌%◌, ltb, eqb, length}
use Prim.Native.Char.{code}
use Prim.Native.String.{String, [] as none, ◌∷◌ as ◌then◌}
use Rattle.algebra.specs.Generators.{pick}
use Rattle.lists.specs.Lists.{tabulate, rows_of}
use Rattle.table.specs.Words.{Table, width}
use Rattle.table.specs.RowFile.{head_p, head_n, head_r, head_s}
use Rattle.table.specs.Results.{entry_w, first_zero_of}
use Rattle.table.specs.Replies.{Reply, refuse}
use Rattle.table.specs.Calls.{read_reply, read_t}

-- the bytes of a text
abbrev pub text : String → List ℕ
text none = []
text (c then cs) = code c ∷ text cs

-- the decimal digits of a number below 10¹⁰, before the rest of the text
unfoldable pub digits : (most n : ℕ) → List ℕ → List ℕ
digits zero n rest = rest
digits (suc m) n rest = pick (ltb n 10) ((48 + n) ∷ rest) (digits m (n / 10) ((48 + n % 10) ∷ rest))

abbrev pub decimal : ℕ → List ℕ
decimal n = digits 10 n []

-- a word and a number
abbrev pub named : String → ℕ → List ℕ
named word n = text word ++ text " " ++ decimal n

-- a row of the matrix: numbers with spaces between
abbrev pub row_text : (P N : ℕ) → Table → ℕ → List ℕ
row_text P N A i = rows_of N (λ j. pick (eqb j 0) [] (text " ") ++ decimal (entry_w P N A i j)) ++ text "\n"

abbrev pub listing : (P N : ℕ) → Table → List ℕ
listing P N A =
    named "prime" P ++ text " " ++ named "size" N ++ text " " ++ named "lower" A.lower ++ text " " ++ named "upper" A.upper ++ text "\n"
    ++ rows_of N (row_text P N A)
    ++ pick (eqb (first_zero_of P N A) 0) (text "regular") (named "singular" (first_zero_of P N A)) ++ text "\n"

abbrev pub refusal : Reply → List ℕ
refusal y = named "refused" y.number ++ text " " ++ decimal y.buffer ++ text " " ++ decimal y.row ++ text "\n"

-- room for the table of a file
abbrev pub room : List ℕ → List ℕ
room f = tabulate (head_n f * width (head_r f) (head_s f)) (λ i. 0)

unfoldable pub lister : List ℕ → List ℕ
lister f =
    pick (ltb 41492 (length f)) (refusal (refuse 9 6 0))
    (pick (eqb (read_reply f (room f)).number 0) (listing (head_p f) (head_n f) (read_t f (room f))) (refusal (read_reply f (room f))))
