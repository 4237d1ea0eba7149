-- The checks of reading a file after those of the head's numbers.
use Rattle.std.specs.Prelude.{not, List, [], ◌∷◌, ℕ, ◌*◌, ◌-◌, eqb, length}
use Rattle.table.specs.Words.{width}
use Rattle.table.specs.Replies.{Check, check, check_row, refuse}
use Rattle.table.specs.RowFile.{file_bytes, head_n, head_r, head_s, first_broken_of, first_bad_in_file}
use Rattle.table.specs.Calls.{check_short}

-- the checks of a file's length, of the result's room, of the chain and of the words
abbrev pub file_checks : (f d : List ℕ) → List Check
file_checks f d =
    check (not (eqb (length f) (file_bytes (head_n f) (head_r f) (head_s f)))) (refuse 9 6 0)
    ∷ check_short 5 d (head_n f * width (head_r f) (head_s f))
    ∷ check_row (first_broken_of f) (λ k. refuse 10 6 (k - 1))
    ∷ check_row (first_bad_in_file f) (refuse 5 6)
    ∷ []
