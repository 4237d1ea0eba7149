-- The dense solve on small tables, as computed facts: each row has the reply's four numbers, the square afterwards, and the result.
use Rattle.std.specs.Prelude.{List, [], ◌∷◌, ◌++◌, ◌≡◌, refl, ℕ, ◌*◌}
use Rattle.algebra.specs.Sums.{fold, join}
use Rattle.algebra.specs.Generators.{entry_of, below, above, products_g, x_states, y_states}
use Rattle.field.specs.PrimeTest.{is_prime_of, divided}
use Rattle.field.specs.Residue.{residues, res, val, of, add, mul, neg, inv, inverse_of, inverse_by, res_dec}
use Rattle.lists.specs.Lists.{tabulate, some, first_of}
use Rattle.table.specs.Words.{Table, table, row_gens, gens, matrix_of, row_words_of, table_words, bad_row_of, first_bad_of, first_bad_place_of}
use Rattle.table.specs.Results.{product_w}
use Rattle.table.specs.Replies.{answer}
use Rattle.table.specs.Calls.{product_reply, product_t}
use Rattle.algebra_elimination.specs.Elimination.{exchange, before, nonzero, pivot_row_of, lowered, reduced, nonsingular, substituted, solution}
use Rattle.table_dense.specs.DenseCall.{nonsingular_w, dense_w, dense_reply, dense_after, square_after_of}

-- a lent buffer of n words, and one word of surplus
abbrev lent : ℕ → List ℕ
lent n = tabulate n (λ i. 88) ++ (99 ∷ [])

-- what is left of a lent square of n by n words that was in use
abbrev cleared : ℕ → List ℕ
cleared n = tabulate (n * n) (λ i. 0) ++ (99 ∷ [])

-- file M's table
abbrev M : Table
M = table 1 1 (1 ∷ 9 ∷ 9 ∷ 2 ∷ 1 ∷ 9 ∷ 9 ∷ 3 ∷ 1 ∷ 2 ∷ 1 ∷ 2 ∷ 3 ∷ 1 ∷ 5 ∷ 3 ∷ 9 ∷ 9 ∷ 9 ∷ 9 ∷ 4 ∷ [])

-- rows 0 1 and 1 0
abbrev swap : Table
swap = table 1 1 (0 ∷ 9 ∷ 9 ∷ 1 ∷ 1 ∷ 9 ∷ 9 ∷ 0 ∷ 1 ∷ 9 ∷ 9 ∷ 9 ∷ 9 ∷ 1 ∷ [])

-- rows 0 0 1, 0 1 0 and 1 0 0: the pivot row is the last
abbrev turned : Table
turned = table 1 1 (0 ∷ 9 ∷ 9 ∷ 1 ∷ 1 ∷ 9 ∷ 9 ∷ 1 ∷ 0 ∷ 1 ∷ 0 ∷ 0 ∷ 1 ∷ 0 ∷ 0 ∷ 1 ∷ 9 ∷ 9 ∷ 9 ∷ 9 ∷ 1 ∷ [])

-- rows 1 1 0, 1 1 1 and 0 1 1: rows are exchanged at the second step
abbrev late : Table
late = table 1 1 (1 ∷ 9 ∷ 9 ∷ 1 ∷ 1 ∷ 9 ∷ 9 ∷ 1 ∷ 1 ∷ 0 ∷ 1 ∷ 1 ∷ 0 ∷ 1 ∷ 1 ∷ 1 ∷ 9 ∷ 9 ∷ 9 ∷ 9 ∷ 1 ∷ [])

-- rows 1 1 and 1 1
abbrev ones : Table
ones = table 1 1 (1 ∷ 9 ∷ 9 ∷ 1 ∷ 1 ∷ 9 ∷ 9 ∷ 1 ∷ 1 ∷ 9 ∷ 9 ∷ 9 ∷ 9 ∷ 1 ∷ [])

-- rows 1 1 and 1 7: the 7 is a bad word modulo 7
abbrev bad : Table
bad = table 1 1 (1 ∷ 9 ∷ 9 ∷ 1 ∷ 1 ∷ 9 ∷ 9 ∷ 7 ∷ 1 ∷ 9 ∷ 9 ∷ 9 ∷ 9 ∷ 1 ∷ [])

abbrev called : (P N : ℕ) → Table → (x v d : List ℕ) → List (List ℕ)
called P N A x v d =
    let y = dense_reply P N A x v d in (y.number ∷ y.buffer ∷ y.row ∷ y.value ∷ []) ∷ square_after_of P N A x v d ∷ dense_after P N A x v d ∷ []

-- Accepted, and refused with 7, where the square is in use.
abbrev used : List (List (List ℕ))
used =
    -- the scope's example 1
    called 7 3 M (4 ∷ 4 ∷ 5 ∷ []) (lent 9) (lent 3)
    -- its example 4: M times M, with which solve is refused at row 1
    ∷ called 7 3 (product_t 7 3 M M (lent 51)) (1 ∷ 2 ∷ 3 ∷ []) (lent 9) (lent 3)
    -- rows exchanged: the next one, the last one, and at the second step
    ∷ called 7 2 swap (3 ∷ 4 ∷ []) (lent 4) (lent 2)
    ∷ called 7 3 turned (1 ∷ 2 ∷ 3 ∷ []) (lent 9) (lent 3)
    ∷ called 7 3 late (1 ∷ 2 ∷ 3 ∷ []) (lent 9) (lent 3)
    -- a matrix that is singular: the square is zeros all the same, and the result is left
    ∷ called 7 2 ones (3 ∷ 4 ∷ []) (lent 4) (lent 2)
    ∷ []

used_is : used ≡
    ((0 ∷ 0 ∷ 0 ∷ 0 ∷ []) ∷ cleared 3 ∷ (1 ∷ 2 ∷ 3 ∷ 99 ∷ []) ∷ [])
    ∷ ((0 ∷ 0 ∷ 0 ∷ 0 ∷ []) ∷ cleared 3 ∷ (4 ∷ 0 ∷ 5 ∷ 99 ∷ []) ∷ [])
    ∷ ((0 ∷ 0 ∷ 0 ∷ 0 ∷ []) ∷ cleared 2 ∷ (4 ∷ 3 ∷ 99 ∷ []) ∷ [])
    ∷ ((0 ∷ 0 ∷ 0 ∷ 0 ∷ []) ∷ cleared 3 ∷ (3 ∷ 2 ∷ 1 ∷ 99 ∷ []) ∷ [])
    ∷ ((0 ∷ 0 ∷ 0 ∷ 0 ∷ []) ∷ cleared 3 ∷ (6 ∷ 2 ∷ 1 ∷ 99 ∷ []) ∷ [])
    ∷ ((7 ∷ 1 ∷ 0 ∷ 0 ∷ []) ∷ cleared 2 ∷ (88 ∷ 88 ∷ 99 ∷ []) ∷ [])
    ∷ []
unfolding dense_reply dense_w nonsingular_w answer is_prime_of divided some first_of fold join bad_row_of first_bad_of first_bad_place_of
    exchange before nonzero pivot_row_of lowered reduced nonsingular substituted solution
    residues res val of add mul neg inv inverse_of inverse_by res_dec
    row_gens gens matrix_of entry_of below above row_words_of table_words product_w product_reply products_g x_states y_states
used_is = refl

-- Every other refusal, which leaves both buffers; each with all later faults that leave it alone.
abbrev refused : List (List (List ℕ))
refused =
    -- 9 is no prime; sizes 257 and 0
    called 9 257 (table 9 9 []) [] [] []
    ∷ called 7 257 (table 9 9 []) [] [] []
    ∷ called 7 0 (table 9 9 []) [] [] []
    -- an order of 9
    ∷ called 7 2 (table 1 9 []) [] [] []
    -- short: the table, the column, the square, the result
    ∷ called 7 2 (table 1 1 []) [] [] []
    ∷ called 7 2 bad [] [] []
    ∷ called 7 2 bad (3 ∷ 7 ∷ []) (lent 2) []
    ∷ called 7 2 bad (3 ∷ 7 ∷ []) (lent 4) (88 ∷ [])
    -- a bad word in row 2 of the table; in place 2 of the column, with a singular matrix
    ∷ called 7 2 bad (3 ∷ 7 ∷ []) (lent 4) (lent 2)
    ∷ called 7 2 ones (3 ∷ 7 ∷ []) (lent 4) (lent 2)
    ∷ []

refused_is : refused ≡
    ((1 ∷ 0 ∷ 0 ∷ 0 ∷ []) ∷ [] ∷ [] ∷ [])
    ∷ ((2 ∷ 0 ∷ 0 ∷ 0 ∷ []) ∷ [] ∷ [] ∷ [])
    ∷ ((2 ∷ 0 ∷ 0 ∷ 0 ∷ []) ∷ [] ∷ [] ∷ [])
    ∷ ((3 ∷ 1 ∷ 0 ∷ 0 ∷ []) ∷ [] ∷ [] ∷ [])
    ∷ ((4 ∷ 1 ∷ 0 ∷ 0 ∷ []) ∷ [] ∷ [] ∷ [])
    ∷ ((4 ∷ 3 ∷ 0 ∷ 0 ∷ []) ∷ [] ∷ [] ∷ [])
    ∷ ((4 ∷ 4 ∷ 0 ∷ 0 ∷ []) ∷ lent 2 ∷ [] ∷ [])
    ∷ ((4 ∷ 5 ∷ 0 ∷ 0 ∷ []) ∷ lent 4 ∷ (88 ∷ []) ∷ [])
    ∷ ((5 ∷ 1 ∷ 2 ∷ 0 ∷ []) ∷ lent 4 ∷ lent 2 ∷ [])
    ∷ ((5 ∷ 3 ∷ 2 ∷ 0 ∷ []) ∷ lent 4 ∷ lent 2 ∷ [])
    ∷ []
unfolding dense_reply answer is_prime_of divided some first_of fold row_words_of bad_row_of first_bad_of first_bad_place_of
refused_is = refl
