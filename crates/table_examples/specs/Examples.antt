-- The scope's examples 1 to 10, the words that each call writes for file M, what the lister prints, and replies to faulty calls, as computed facts.
use Rattle.std.specs.Prelude.{Bool, true, false, ◌&&◌, List, [], ◌∷◌, ◌++◌, ◌≡◌, refl, ℕ}
use Rattle.algebra.specs.Sums.{fold, join}
use Rattle.algebra.specs.Generators.{entry_of, below, above, products_g, x_states, y_states, inverses_g, pivots, fs, vs, ys, zs, solved_g, ahead, behind, sums_g}
use Rattle.field.specs.PrimeTest.{is_prime_of, divided, prime_is, house_prime_lem}
use Rattle.field.specs.Residue.{residues, res, val, of, add, mul, neg, inv, inverse_of, inverse_by, res_dec}
use Rattle.lists.specs.Lists.{tabulate, some, first_of}
use Rattle.table.specs.Words.{Table, table, row_gens, gens, matrix_of, row_words_of, table_words, bad_row_of, first_bad_of, first_bad_place_of}
use Rattle.table.specs.Results.{entry_w, matrix_w, apply_w, apply_transposed_w, transpose_w, multiple_w, sum_w, inverse_w, pivot_w, first_zero_of, solve_w, work_w, product_w}
use Rattle.table.specs.RowFile.{bytes_of, met, broken, first_broken_of, file_gens, first_bad_in_file, read_w, words_of_file, write_w}
use Rattle.table.specs.Replies.{Reply, answer, accept, refuse}
use Rattle.table.specs.Calls.{entry_reply, matrix_reply, apply_reply, transpose_reply, multiple_reply, solve_reply, inverse_reply, write_reply, sum_reply, product_reply}
use Rattle.table.specs.Calls.{read_reply, matrix_after, apply_after, apply_transposed_after, transpose_after, multiple_after, sum_after, product_after, work_after_of}
use Rattle.table.specs.Calls.{solve_after, inverse_after, write_after, read_after, inverse_t, product_t}
use Rattle.table.specs.Lister.{lister, text, digits}

-- the four numbers of a reply
abbrev pub numbers_of : Reply → List ℕ
numbers_of y = y.number ∷ y.buffer ∷ y.row ∷ y.value ∷ []

-- a lent buffer of n words, and one word of surplus
abbrev pub lent : ℕ → List ℕ
lent n = tabulate n (λ i. 88) ++ (99 ∷ [])

abbrev file_m : List ℕ
file_m = 7 ∷ 3 ∷ 1 ∷ 1 ∷ 2 ∷ 0 ∷ 5 ∷ 3 ∷ 9 ∷ 9 ∷ 9 ∷ 9 ∷ 4 ∷ 3 ∷ 1 ∷ 9 ∷ 9 ∷ 2 ∷ 1 ∷ 9 ∷ 9 ∷ 1 ∷ 3 ∷ 1 ∷ 2 ∷ 1 ∷ 2 ∷ 3 ∷ 1 ∷ []

-- its table, with 9 in its unused words
abbrev M : Table
M = table 1 1 (1 ∷ 9 ∷ 9 ∷ 2 ∷ 1 ∷ 9 ∷ 9 ∷ 3 ∷ 1 ∷ 2 ∷ 1 ∷ 2 ∷ 3 ∷ 1 ∷ 5 ∷ 3 ∷ 9 ∷ 9 ∷ 9 ∷ 9 ∷ 4 ∷ [])

-- a table with lower order 1 and upper order 0; rows 1 1 and 1 0; and columns
abbrev D : Table
D = table 1 0 (1 ∷ 9 ∷ 9 ∷ 2 ∷ 3 ∷ 4 ∷ 5 ∷ 6 ∷ 2 ∷ 1 ∷ 9 ∷ 9 ∷ [])

abbrev E : Table
E = table 1 1 (1 ∷ 0 ∷ 0 ∷ 1 ∷ 1 ∷ 0 ∷ 0 ∷ 0 ∷ 1 ∷ 0 ∷ 0 ∷ 0 ∷ 0 ∷ 1 ∷ [])

abbrev x123 : List ℕ
x123 = 1 ∷ 2 ∷ 3 ∷ []

abbrev x445 : List ℕ
x445 = 4 ∷ 4 ∷ 5 ∷ []

-- Each row: the reply, then each written buffer.
abbrev examples : List (List (List ℕ))
examples =
    -- file M read
    (numbers_of (read_reply (bytes_of file_m) (lent 21)) ∷ read_after (bytes_of file_m) (lent 21) ∷ [])
    -- its matrix
    ∷ (numbers_of (matrix_reply 7 3 M (lent 9)) ∷ matrix_after 7 3 M (lent 9) ∷ [])
    -- 1. M sends (1, 2, 3)
    ∷ (numbers_of (apply_reply 7 3 M x123 (lent 3)) ∷ apply_after 7 3 M x123 (lent 3) ∷ [])
    --    solving for (4, 4, 5)
    ∷ (numbers_of (solve_reply 7 3 M x445 (lent 3) (lent 3)) ∷ work_after_of 7 3 M x445 (lent 3) (lent 3) ∷ solve_after 7 3 M x445 (lent 3) (lent 3) ∷ [])
    -- 2. pivots of M
    ∷ (tabulate 3 (pivot_w 7 3 M) ∷ [])
    -- 3. the inverse of M
    ∷ (numbers_of (inverse_reply 7 3 M (lent 21)) ∷ inverse_after 7 3 M (lent 21) ∷ [])
    --    its matrix
    ∷ (numbers_of (matrix_reply 7 3 (inverse_t 7 3 M (lent 21)) (lent 9)) ∷ matrix_after 7 3 (inverse_t 7 3 M (lent 21)) (lent 9) ∷ [])
    -- 4. M times M
    ∷ (numbers_of (product_reply 7 3 M M (lent 51)) ∷ product_after 7 3 M M (lent 51) ∷ [])
    --    its matrix
    ∷ (numbers_of (matrix_reply 7 3 (product_t 7 3 M M (lent 51)) (lent 9)) ∷ matrix_after 7 3 (product_t 7 3 M M (lent 51)) (lent 9) ∷ [])
    --    solving with it
    ∷ (numbers_of (solve_reply 7 3 (product_t 7 3 M M (lent 51)) x445 (lent 6) (lent 3)) ∷ work_after_of 7 3 (product_t 7 3 M M (lent 51)) x445 (lent 6) (lent 3)
    ∷ solve_after 7 3 (product_t 7 3 M M (lent 51)) x445 (lent 6) (lent 3) ∷ [])
    -- 5. rows 1 1 and 1 0
    ∷ (numbers_of (matrix_reply 7 2 E (lent 4)) ∷ matrix_after 7 2 E (lent 4) ∷ [])
    --    the inverse
    ∷ (numbers_of (inverse_reply 7 2 E (lent 14)) ∷ inverse_after 7 2 E (lent 14) ∷ [])
    --    its matrix
    ∷ (numbers_of (matrix_reply 7 2 (inverse_t 7 2 E (lent 14)) (lent 4)) ∷ matrix_after 7 2 (inverse_t 7 2 E (lent 14)) (lent 4) ∷ [])
    --    its inverse
    ∷ (numbers_of (inverse_reply 7 2 (inverse_t 7 2 E (lent 14)) (lent 14)) ∷ inverse_after 7 2 (inverse_t 7 2 E (lent 14)) (lent 14) ∷ [])
    -- 6. N = 1, d = 0
    ∷ (numbers_of (inverse_reply 7 1 (table 0 0 (0 ∷ [])) (lent 1)) ∷ inverse_after 7 1 (table 0 0 (0 ∷ [])) (lent 1) ∷ [])
    -- 7. diagonal 2, 3 modulo 5
    ∷ (numbers_of (apply_reply 5 2 (table 0 0 (2 ∷ 3 ∷ [])) (1 ∷ 1 ∷ []) (lent 2)) ∷ apply_after 5 2 (table 0 0 (2 ∷ 3 ∷ [])) (1 ∷ 1 ∷ []) (lent 2) ∷ [])
    -- 8. P = 2, N = 1, d = 1
    ∷ (numbers_of (inverse_reply 2 1 (table 0 0 (1 ∷ [])) (lent 1)) ∷ inverse_after 2 1 (table 0 0 (1 ∷ [])) (lent 1) ∷ [])
    -- the transpose of M
    ∷ (numbers_of (transpose_reply 7 3 M (lent 21)) ∷ transpose_after 7 3 M (lent 21) ∷ [])
    -- what it sends (1, 2, 3) to
    ∷ (numbers_of (apply_reply 7 3 M x123 (lent 3)) ∷ apply_transposed_after 7 3 M x123 (lent 3) ∷ [])
    -- M times 3
    ∷ (numbers_of (multiple_reply 7 3 M 3 (lent 21)) ∷ multiple_after 7 3 M 3 (lent 21) ∷ [])
    -- M and D added
    ∷ (numbers_of (sum_reply 7 3 M D (lent 36)) ∷ sum_after 7 3 M D (lent 36) ∷ [])
    -- M written
    ∷ (numbers_of (write_reply 7 3 M (lent 116)) ∷ write_after 7 3 M (lent 116) ∷ [])
    -- what the lister prints
    ∷ (lister (bytes_of file_m) ∷ lister (bytes_of (101 ∷ 2 ∷ 0 ∷ 1 ∷ 2 ∷ 0 ∷ 0 ∷ 999 ∷ 999 ∷ 17 ∷ 1 ∷ 100 ∷ 55 ∷ 999 ∷ 999 ∷ []))
    ∷ lister (bytes_of (7 ∷ 2 ∷ 0 ∷ 0 ∷ 1 ∷ 2 ∷ 6 ∷ 0 ∷ 7 ∷ [])) ∷ [])
    ∷ []

abbrev outcomes : List (List (List ℕ))
outcomes =
    -- file M read
    ((0 ∷ 0 ∷ 0 ∷ 7 ∷ []) ∷ (1 ∷ 0 ∷ 0 ∷ 2 ∷ 1 ∷ 0 ∷ 0 ∷ 3 ∷ 1 ∷ 2 ∷ 1 ∷ 2 ∷ 3 ∷ 1 ∷ 5 ∷ 3 ∷ 0 ∷ 0 ∷ 0 ∷ 0 ∷ 4 ∷ 99 ∷ []) ∷ [])
    -- its matrix
    ∷ ((0 ∷ 0 ∷ 0 ∷ 0 ∷ []) ∷ (1 ∷ 1 ∷ 5 ∷ 2 ∷ 3 ∷ 1 ∷ 5 ∷ 3 ∷ 5 ∷ 99 ∷ []) ∷ [])
    -- 1. M sends (1, 2, 3)
    ∷ ((0 ∷ 0 ∷ 0 ∷ 0 ∷ []) ∷ (4 ∷ 4 ∷ 5 ∷ 99 ∷ []) ∷ [])
    --    solving for (4, 4, 5)
    ∷ ((0 ∷ 0 ∷ 0 ∷ 0 ∷ []) ∷ (1 ∷ 3 ∷ 0 ∷ 99 ∷ []) ∷ (1 ∷ 2 ∷ 3 ∷ 99 ∷ []) ∷ [])
    -- 2. pivots of M
    ∷ ((1 ∷ 1 ∷ 4 ∷ []) ∷ [])
    -- 3. the inverse of M
    ∷ ((0 ∷ 0 ∷ 0 ∷ 0 ∷ []) ∷ (3 ∷ 0 ∷ 0 ∷ 2 ∷ 1 ∷ 0 ∷ 0 ∷ 2 ∷ 2 ∷ 5 ∷ 4 ∷ 3 ∷ 0 ∷ 6 ∷ 2 ∷ 1 ∷ 0 ∷ 0 ∷ 0 ∷ 0 ∷ 6 ∷ 99 ∷ []) ∷ [])
    --    its matrix
    ∷ ((0 ∷ 0 ∷ 0 ∷ 0 ∷ []) ∷ (3 ∷ 6 ∷ 0 ∷ 4 ∷ 2 ∷ 4 ∷ 3 ∷ 4 ∷ 2 ∷ 99 ∷ []) ∷ [])
    -- 4. M times M
    ∷ ((0 ∷ 0 ∷ 0 ∷ 0 ∷ []) ∷ (0 ∷ 0 ∷ 0 ∷ 0 ∷ 0 ∷ 0 ∷ 0 ∷ 2 ∷ 2 ∷ 1 ∷ 1 ∷ 0 ∷ 0 ∷ 0 ∷ 0 ∷ 0 ∷ 0 ∷ 0 ∷ 1 ∷ 2 ∷ 2 ∷ 1 ∷ 0
    ∷ 2 ∷ 0 ∷ 1 ∷ 2 ∷ 5 ∷ 3 ∷ 2 ∷ 0 ∷ 3
    ∷ 4 ∷ 1 ∷ 4 ∷ 3 ∷ 1 ∷ 0 ∷ 0 ∷ 0 ∷ 0 ∷ 0 ∷ 0 ∷ 0 ∷ 0 ∷ 0 ∷ 0 ∷ 0 ∷ 0 ∷ 6 ∷ 4 ∷ 99 ∷ []) ∷ [])
    --    its matrix
    ∷ ((0 ∷ 0 ∷ 0 ∷ 0 ∷ []) ∷ (0 ∷ 5 ∷ 3 ∷ 6 ∷ 0 ∷ 4 ∷ 1 ∷ 1 ∷ 4 ∷ 99 ∷ []) ∷ [])
    --    solving with it
    ∷ ((7 ∷ 1 ∷ 1 ∷ 0 ∷ []) ∷ (88 ∷ 88 ∷ 88 ∷ 88 ∷ 88 ∷ 88 ∷ 99 ∷ []) ∷ (88 ∷ 88 ∷ 88 ∷ 99 ∷ []) ∷ [])
    -- 5. rows 1 1 and 1 0
    ∷ ((0 ∷ 0 ∷ 0 ∷ 0 ∷ []) ∷ (1 ∷ 1 ∷ 1 ∷ 0 ∷ 99 ∷ []) ∷ [])
    --    the inverse
    ∷ ((0 ∷ 0 ∷ 0 ∷ 0 ∷ []) ∷ (0 ∷ 0 ∷ 0 ∷ 1 ∷ 1 ∷ 0 ∷ 0 ∷ 6 ∷ 1 ∷ 0 ∷ 0 ∷ 0 ∷ 0 ∷ 1 ∷ 99 ∷ []) ∷ [])
    --    its matrix
    ∷ ((0 ∷ 0 ∷ 0 ∷ 0 ∷ []) ∷ (0 ∷ 1 ∷ 1 ∷ 6 ∷ 99 ∷ []) ∷ [])
    --    its inverse
    ∷ ((7 ∷ 1 ∷ 1 ∷ 0 ∷ []) ∷ (88 ∷ 88 ∷ 88 ∷ 88 ∷ 88 ∷ 88 ∷ 88 ∷ 88 ∷ 88 ∷ 88 ∷ 88 ∷ 88 ∷ 88 ∷ 88 ∷ 99 ∷ []) ∷ [])
    -- 6. N = 1, d = 0
    ∷ ((7 ∷ 1 ∷ 1 ∷ 0 ∷ []) ∷ (88 ∷ 99 ∷ []) ∷ [])
    -- 7. diagonal 2, 3 modulo 5
    ∷ ((0 ∷ 0 ∷ 0 ∷ 0 ∷ []) ∷ (2 ∷ 3 ∷ 99 ∷ []) ∷ [])
    -- 8. P = 2, N = 1, d = 1
    ∷ ((0 ∷ 0 ∷ 0 ∷ 0 ∷ []) ∷ (1 ∷ 99 ∷ []) ∷ [])
    -- the transpose of M
    ∷ ((0 ∷ 0 ∷ 0 ∷ 0 ∷ []) ∷ (1 ∷ 0 ∷ 0 ∷ 1 ∷ 2 ∷ 0 ∷ 0 ∷ 3 ∷ 1 ∷ 3 ∷ 2 ∷ 1 ∷ 2 ∷ 1 ∷ 5 ∷ 4 ∷ 0 ∷ 0 ∷ 0 ∷ 0 ∷ 3 ∷ 99 ∷ []) ∷ [])
    -- what it sends (1, 2, 3) to
    ∷ ((0 ∷ 0 ∷ 0 ∷ 0 ∷ []) ∷ (6 ∷ 2 ∷ 1 ∷ 99 ∷ []) ∷ [])
    -- M times 3
    ∷ ((0 ∷ 0 ∷ 0 ∷ 0 ∷ []) ∷ (3 ∷ 0 ∷ 0 ∷ 2 ∷ 3 ∷ 0 ∷ 0 ∷ 2 ∷ 3 ∷ 2 ∷ 1 ∷ 6 ∷ 3 ∷ 1 ∷ 1 ∷ 2 ∷ 0 ∷ 0 ∷ 0 ∷ 0 ∷ 4 ∷ 99 ∷ []) ∷ [])
    -- M and D added
    ∷ ((0 ∷ 0 ∷ 0 ∷ 0 ∷ []) ∷ (2 ∷ 0 ∷ 0 ∷ 0 ∷ 0 ∷ 0 ∷ 0 ∷ 2 ∷ 2 ∷ 1 ∷ 0 ∷ 0 ∷ 6 ∷ 1 ∷ 4 ∷ 2 ∷ 0 ∷ 0 ∷ 5 ∷ 1 ∷ 6 ∷ 2 ∷ 3
    ∷ 1 ∷ 0 ∷ 3 ∷ 1 ∷ 0 ∷ 0 ∷ 0 ∷ 0 ∷ 0
    ∷ 0 ∷ 0 ∷ 0 ∷ 4 ∷ 99 ∷ []) ∷ [])
    -- M written
    ∷ ((0 ∷ 0 ∷ 0 ∷ 0 ∷ [])
    ∷ (bytes_of (7 ∷ 3 ∷ 1 ∷ 1 ∷ 1 ∷ 2 ∷ 1 ∷ 0 ∷ 0 ∷ 2 ∷ 1 ∷ 0 ∷ 0 ∷ 3 ∷ 3 ∷ 1 ∷ 2 ∷ 1 ∷ 2 ∷ 3 ∷ 1 ∷ 0 ∷ 5 ∷ 3 ∷ 0 ∷ 0 ∷ 0
    ∷ 0 ∷ 4 ∷ []) ++ (99 ∷ [])) ∷ [])
    -- what the lister prints
    ∷ (text "prime 7 size 3 lower 1 upper 1\n1 1 5\n2 3 1\n5 3 5\nregular\n" ∷ text "prime 101 size 2 lower 0 upper 1\n100 26\n0 0\nsingular 2\n"
    ∷ text "refused 5 6 2\n" ∷ [])
    ∷ []

starred : examples ≡ outcomes
unfolding lister digits fold join entry_of below above products_g x_states y_states inverses_g pivots fs vs ys zs solved_g ahead behind sums_g residues res val of add
    mul neg inv inverse_of inverse_by res_dec is_prime_of divided some first_of row_gens gens matrix_of row_words_of table_words bad_row_of first_bad_of first_bad_place_of
    entry_w matrix_w apply_w apply_transposed_w transpose_w multiple_w sum_w inverse_w pivot_w first_zero_of solve_w work_w product_w met broken first_broken_of
    file_gens first_bad_in_file read_w words_of_file write_w answer entry_reply matrix_reply apply_reply transpose_reply multiple_reply solve_reply inverse_reply
    write_reply sum_reply product_reply read_reply
starred = refl

-- Replies: the limits, with examples 9 and 10; faulty calls, most of them with several faults at once, of which the earliest is named; and what is
-- easily got wrong.
abbrev calls : List (List ℕ)
calls =
    -- the limits
    numbers_of (entry_reply 7 1 (table 0 0 (6 ∷ [])) 1 1)
    ∷ numbers_of (entry_reply 7 1024 (table 0 0 (tabulate 1024 (λ i. 1))) 1024 1)
    ∷ numbers_of (entry_reply 7 1025 (table 0 0 (tabulate 1025 (λ i. 1))) 1 1)
    ∷ numbers_of (entry_reply 7 0 (table 0 0 []) 1 1)
    ∷ numbers_of (entry_reply 7 1 (table 8 8 (tabulate 161 (λ i. 5))) 1 1)
    ∷ numbers_of (entry_reply 7 1 (table 9 0 (tabulate 161 (λ i. 5))) 1 1)
    ∷ numbers_of (entry_reply 7 1 (table 0 9 (tabulate 161 (λ i. 5))) 1 1)
    ∷ numbers_of (sum_reply 7 1 (table 4 0 (tabulate 25 (λ i. 1))) (table 4 0 (tabulate 25 (λ i. 1))) (lent 81))
    ∷ numbers_of (sum_reply 7 1 (table 4 0 (tabulate 25 (λ i. 1))) (table 5 0 (tabulate 36 (λ i. 1))) (lent 100))
    ∷ numbers_of (product_reply 7 1 (table 0 4 (tabulate 25 (λ i. 1))) (table 0 4 (tabulate 25 (λ i. 1))) (lent 81))
    ∷ numbers_of (product_reply 7 1 (table 0 4 (tabulate 25 (λ i. 1))) (table 0 5 (tabulate 36 (λ i. 1))) (lent 100))
    ∷ numbers_of (entry_reply 0 1 (table 0 0 (0 ∷ [])) 1 1)
    ∷ numbers_of (entry_reply 1 1 (table 0 0 (0 ∷ [])) 1 1)
    ∷ numbers_of (entry_reply 2 1 (table 0 0 (1 ∷ [])) 1 1)
    ∷ numbers_of (entry_reply 9 1 (table 0 0 (0 ∷ [])) 1 1)
    ∷ numbers_of (read_reply (bytes_of (7 ∷ 3 ∷ 1 ∷ 1 ∷ 4 ∷ 0 ∷ 5 ∷ 3 ∷ 9 ∷ 9 ∷ 9 ∷ 9 ∷ 4 ∷ 3 ∷ 1 ∷ 9 ∷ 9 ∷ 2 ∷ 1 ∷ 9 ∷ 9 ∷ 1
    ∷ 3 ∷ 1 ∷ 2 ∷ 1 ∷ 2 ∷ 3 ∷ 1
    ∷ [])) (lent 21))
    ∷ numbers_of (read_reply (bytes_of (7 ∷ 3 ∷ 1 ∷ 1 ∷ 2 ∷ 1 ∷ 5 ∷ 3 ∷ 9 ∷ 9 ∷ 9 ∷ 9 ∷ 4 ∷ 3 ∷ 1 ∷ 9 ∷ 9 ∷ 2 ∷ 1 ∷ 9 ∷ 9 ∷ 1
    ∷ 3 ∷ 1 ∷ 2 ∷ 1 ∷ 2 ∷ 3 ∷ 1
    ∷ [])) (lent 21))
    -- faults, most of them several at once
    ∷ numbers_of (read_reply (bytes_of (9 ∷ [])) ([]))
    ∷ numbers_of (read_reply (bytes_of (9 ∷ 0 ∷ 1 ∷ 1 ∷ 1 ∷ [])) ([]))
    ∷ numbers_of (read_reply (bytes_of (7 ∷ 0 ∷ 9 ∷ 1 ∷ 1 ∷ [])) ([]))
    ∷ numbers_of (read_reply (bytes_of (7 ∷ 1 ∷ 9 ∷ 1 ∷ 1 ∷ [])) ([]))
    ∷ numbers_of (read_reply (bytes_of (7 ∷ 1 ∷ 0 ∷ 0 ∷ 1 ∷ [])) ([]))
    ∷ numbers_of (read_reply (bytes_of (7 ∷ 1 ∷ 0 ∷ 0 ∷ 2 ∷ 0 ∷ 9 ∷ [])) ([]))
    ∷ numbers_of (read_reply (bytes_of (7 ∷ 1 ∷ 0 ∷ 0 ∷ 2 ∷ 0 ∷ 9 ∷ [])) (0 ∷ []))
    ∷ numbers_of (read_reply (bytes_of (7 ∷ 1 ∷ 0 ∷ 0 ∷ 1 ∷ 0 ∷ 9 ∷ [])) (0 ∷ []))
    ∷ numbers_of (solve_reply 9 0 (table 9 9 ([])) ([]) ([]) ([]))
    ∷ numbers_of (solve_reply 7 0 (table 9 9 ([])) ([]) ([]) ([]))
    ∷ numbers_of (solve_reply 7 1 (table 0 9 ([])) ([]) ([]) ([]))
    ∷ numbers_of (solve_reply 7 1 (table 1 1 ([])) ([]) ([]) ([]))
    ∷ numbers_of (solve_reply 7 1 (table 1 1 (9 ∷ 0 ∷ 0 ∷ 0 ∷ 0 ∷ 0 ∷ 0 ∷ [])) ([]) ([]) ([]))
    ∷ numbers_of (solve_reply 7 1 (table 1 1 (9 ∷ 0 ∷ 0 ∷ 0 ∷ 0 ∷ 0 ∷ 0 ∷ [])) (9 ∷ []) ([]) ([]))
    ∷ numbers_of (solve_reply 7 1 (table 1 1 (9 ∷ 0 ∷ 0 ∷ 0 ∷ 0 ∷ 0 ∷ 0 ∷ [])) (9 ∷ []) (0 ∷ []) ([]))
    ∷ numbers_of (solve_reply 7 1 (table 1 1 (9 ∷ 0 ∷ 0 ∷ 0 ∷ 0 ∷ 0 ∷ 0 ∷ [])) (9 ∷ []) (0 ∷ []) (0 ∷ []))
    ∷ numbers_of (solve_reply 7 1 (table 1 1 (0 ∷ 0 ∷ 0 ∷ 0 ∷ 0 ∷ 0 ∷ 0 ∷ [])) (9 ∷ []) (0 ∷ []) (0 ∷ []))
    ∷ numbers_of (solve_reply 7 1 (table 1 1 (0 ∷ 0 ∷ 0 ∷ 0 ∷ 0 ∷ 0 ∷ 0 ∷ [])) (6 ∷ []) (0 ∷ []) (0 ∷ []))
    ∷ numbers_of (inverse_reply 9 0 (table 9 9 ([])) ([]))
    ∷ numbers_of (inverse_reply 7 1 (table 0 0 (9 ∷ [])) ([]))
    ∷ numbers_of (inverse_reply 7 2 (table 0 0 (0 ∷ 9 ∷ [])) (0 ∷ 0 ∷ []))
    ∷ numbers_of (entry_reply 7 1 (table 9 0 ([])) 2 1)
    ∷ numbers_of (entry_reply 7 1 (table 0 0 ([])) 0 1)
    ∷ numbers_of (entry_reply 7 1 (table 0 0 ([])) 1 2)
    ∷ numbers_of (entry_reply 7 1 (table 0 0 ([])) 1 1)
    ∷ numbers_of (multiple_reply 7 1 (table 0 0 (9 ∷ [])) 7 ([]))
    ∷ numbers_of (multiple_reply 7 1 (table 0 0 (9 ∷ [])) 7 (0 ∷ []))
    ∷ numbers_of (product_reply 9 0 (table 9 9 ([])) (table 9 9 ([])) ([]))
    ∷ numbers_of (product_reply 7 0 (table 9 9 ([])) (table 9 9 ([])) ([]))
    ∷ numbers_of (product_reply 7 1 (table 0 9 ([])) (table 9 9 ([])) ([]))
    ∷ numbers_of (product_reply 7 1 (table 8 8 ([])) (table 9 0 ([])) ([]))
    ∷ numbers_of (product_reply 7 1 (table 8 8 ([])) (table 1 0 ([])) ([]))
    ∷ numbers_of (product_reply 7 1 (table 0 0 ([])) (table 0 0 ([])) ([]))
    ∷ numbers_of (product_reply 7 1 (table 0 0 (9 ∷ [])) (table 0 0 ([])) ([]))
    ∷ numbers_of (product_reply 7 1 (table 0 0 (9 ∷ [])) (table 0 0 (9 ∷ [])) ([]))
    ∷ numbers_of (product_reply 7 1 (table 0 0 (9 ∷ [])) (table 0 0 (9 ∷ [])) (0 ∷ []))
    ∷ numbers_of (product_reply 7 1 (table 0 0 (6 ∷ [])) (table 0 0 (9 ∷ [])) (0 ∷ []))
    ∷ numbers_of (apply_reply 7 1 (table 0 0 (9 ∷ [])) (9 ∷ []) ([]))
    ∷ numbers_of (apply_reply 7 1 (table 0 0 (9 ∷ [])) (9 ∷ []) (0 ∷ []))
    ∷ numbers_of (matrix_reply 7 1 (table 0 0 (9 ∷ [])) ([]))
    ∷ numbers_of (transpose_reply 7 1 (table 0 0 (9 ∷ [])) ([]))
    ∷ numbers_of (write_reply 7 1 (table 0 0 (9 ∷ [])) ([]))
    ∷ numbers_of (write_reply 7 1 (table 0 0 ([])) ([]))
    ∷ numbers_of (sum_reply 9 0 (table 9 9 []) (table 9 9 []) [])
    ∷ numbers_of (sum_reply 7 1 (table 8 8 []) (table 1 0 []) [])
    ∷ numbers_of (sum_reply 7 1 (table 0 0 (6 ∷ [])) (table 0 0 (9 ∷ [])) (0 ∷ []))
    -- easily got wrong
    ∷ numbers_of (entry_reply 9 0 (table 9 0 []) 0 1)
    ∷ numbers_of (entry_reply 7 0 (table 9 0 []) 0 1)
    ∷ numbers_of (entry_reply 7 3 (table 9 0 []) 0 1)
    ∷ numbers_of (entry_reply 7 3 (table 1 1 []) 4 1)
    ∷ numbers_of (entry_reply 7 3 (table 1 1 (7 ∷ 9 ∷ 9 ∷ 2 ∷ 1 ∷ 9 ∷ 9 ∷ 3 ∷ 1 ∷ 2 ∷ 1 ∷ 2 ∷ 3 ∷ 1 ∷ 5 ∷ 3 ∷ 9 ∷ 9 ∷ 9 ∷ 9 ∷ [])) 1 1)
    ∷ numbers_of (entry_reply 7 3 (table 1 1 (1 ∷ 9 ∷ 9 ∷ 2 ∷ 1 ∷ 9 ∷ 9 ∷ 3 ∷ 1 ∷ 2 ∷ 1 ∷ 2 ∷ 3 ∷ 1 ∷ 5 ∷ 3 ∷ 9 ∷ 9 ∷ 9 ∷ 9 ∷ 7 ∷ [])) 1 1)
    ∷ numbers_of (entry_reply 2047 1 (table 0 0 (1 ∷ [])) 1 1)
    ∷ numbers_of (sum_reply 7 1 (table 8 0 []) (table 9 0 []) [])
    ∷ numbers_of (sum_reply 7 1 (table 0 0 (6 ∷ [])) (table 0 0 (9 ∷ [])) [])
    ∷ numbers_of (product_reply 7 2 (table 0 0 (0 ∷ 9 ∷ [])) (table 0 0 (9 ∷ 0 ∷ [])) (0 ∷ 0 ∷ []))
    ∷ numbers_of (solve_reply 7 2 (table 0 0 (0 ∷ 1 ∷ [])) (0 ∷ 7 ∷ []) [] (0 ∷ 0 ∷ []))
    ∷ numbers_of (solve_reply 7 1 (table 0 0 (3 ∷ [])) (1 ∷ []) [] (0 ∷ []))
    ∷ numbers_of (solve_reply 7 1 (table 0 1 (3 ∷ 9 ∷ 9 ∷ 9 ∷ [])) (1 ∷ []) [] (0 ∷ []))
    ∷ numbers_of (read_reply (bytes_of file_m ++ (0 ∷ [])) [])
    ∷ numbers_of (read_reply (bytes_of (7 ∷ 3 ∷ 1 ∷ 1 ∷ 2 ∷ 0 ∷ 5 ∷ 3 ∷ 9 ∷ 9 ∷ 9 ∷ 9 ∷ 4 ∷ 2 ∷ 1 ∷ 9 ∷ 9 ∷ 2 ∷ 1 ∷ 9 ∷ 9 ∷ 1
    ∷ 3 ∷ 1 ∷ 2 ∷ 1 ∷ 2 ∷ 3 ∷ 1
    ∷ [])) (lent 21))
    ∷ numbers_of (read_reply (bytes_of (7 ∷ 3 ∷ 1 ∷ 1 ∷ 2 ∷ 0 ∷ 7 ∷ 3 ∷ 9 ∷ 9 ∷ 9 ∷ 9 ∷ 4 ∷ 3 ∷ 1 ∷ 9 ∷ 9 ∷ 2 ∷ 1 ∷ 9 ∷ 9 ∷ 1
    ∷ 7 ∷ 1 ∷ 2 ∷ 1 ∷ 2 ∷ 3 ∷ 1
    ∷ [])) (lent 21))
    ∷ numbers_of (read_reply (bytes_of (2 ∷ 3 ∷ 0 ∷ 0 ∷ 3 ∷ 2 ∷ 1 ∷ 0 ∷ 1 ∷ 1 ∷ 1 ∷ [])) (lent 3))
    ∷ []

abbrev replies : List (List ℕ)
replies =
    -- the limits
    (0 ∷ 0 ∷ 0 ∷ 6 ∷ [])
    ∷ (0 ∷ 0 ∷ 0 ∷ 0 ∷ [])
    ∷ (2 ∷ 0 ∷ 0 ∷ 0 ∷ [])
    ∷ (2 ∷ 0 ∷ 0 ∷ 0 ∷ [])
    ∷ (0 ∷ 0 ∷ 0 ∷ 5 ∷ [])
    ∷ (3 ∷ 1 ∷ 0 ∷ 0 ∷ [])
    ∷ (3 ∷ 1 ∷ 0 ∷ 0 ∷ [])
    ∷ (0 ∷ 0 ∷ 0 ∷ 0 ∷ [])
    ∷ (6 ∷ 0 ∷ 0 ∷ 0 ∷ [])
    ∷ (0 ∷ 0 ∷ 0 ∷ 0 ∷ [])
    ∷ (6 ∷ 0 ∷ 0 ∷ 0 ∷ [])
    ∷ (1 ∷ 0 ∷ 0 ∷ 0 ∷ [])
    ∷ (1 ∷ 0 ∷ 0 ∷ 0 ∷ [])
    ∷ (0 ∷ 0 ∷ 0 ∷ 1 ∷ [])
    ∷ (1 ∷ 0 ∷ 0 ∷ 0 ∷ [])
    ∷ (10 ∷ 6 ∷ 0 ∷ 0 ∷ [])
    ∷ (10 ∷ 6 ∷ 3 ∷ 0 ∷ [])
    -- faults, most of them several at once
    ∷ (9 ∷ 6 ∷ 0 ∷ 0 ∷ [])
    ∷ (1 ∷ 0 ∷ 0 ∷ 0 ∷ [])
    ∷ (2 ∷ 0 ∷ 0 ∷ 0 ∷ [])
    ∷ (3 ∷ 6 ∷ 0 ∷ 0 ∷ [])
    ∷ (9 ∷ 6 ∷ 0 ∷ 0 ∷ [])
    ∷ (4 ∷ 5 ∷ 0 ∷ 0 ∷ [])
    ∷ (10 ∷ 6 ∷ 0 ∷ 0 ∷ [])
    ∷ (5 ∷ 6 ∷ 1 ∷ 0 ∷ [])
    ∷ (1 ∷ 0 ∷ 0 ∷ 0 ∷ [])
    ∷ (2 ∷ 0 ∷ 0 ∷ 0 ∷ [])
    ∷ (3 ∷ 1 ∷ 0 ∷ 0 ∷ [])
    ∷ (4 ∷ 1 ∷ 0 ∷ 0 ∷ [])
    ∷ (4 ∷ 3 ∷ 0 ∷ 0 ∷ [])
    ∷ (4 ∷ 4 ∷ 0 ∷ 0 ∷ [])
    ∷ (4 ∷ 5 ∷ 0 ∷ 0 ∷ [])
    ∷ (5 ∷ 1 ∷ 1 ∷ 0 ∷ [])
    ∷ (5 ∷ 3 ∷ 1 ∷ 0 ∷ [])
    ∷ (7 ∷ 1 ∷ 1 ∷ 0 ∷ [])
    ∷ (1 ∷ 0 ∷ 0 ∷ 0 ∷ [])
    ∷ (4 ∷ 5 ∷ 0 ∷ 0 ∷ [])
    ∷ (5 ∷ 1 ∷ 2 ∷ 0 ∷ [])
    ∷ (3 ∷ 1 ∷ 0 ∷ 0 ∷ [])
    ∷ (8 ∷ 0 ∷ 0 ∷ 0 ∷ [])
    ∷ (8 ∷ 0 ∷ 0 ∷ 0 ∷ [])
    ∷ (4 ∷ 1 ∷ 0 ∷ 0 ∷ [])
    ∷ (4 ∷ 5 ∷ 0 ∷ 0 ∷ [])
    ∷ (5 ∷ 0 ∷ 0 ∷ 0 ∷ [])
    ∷ (1 ∷ 0 ∷ 0 ∷ 0 ∷ [])
    ∷ (2 ∷ 0 ∷ 0 ∷ 0 ∷ [])
    ∷ (3 ∷ 1 ∷ 0 ∷ 0 ∷ [])
    ∷ (3 ∷ 2 ∷ 0 ∷ 0 ∷ [])
    ∷ (6 ∷ 0 ∷ 0 ∷ 0 ∷ [])
    ∷ (4 ∷ 1 ∷ 0 ∷ 0 ∷ [])
    ∷ (4 ∷ 2 ∷ 0 ∷ 0 ∷ [])
    ∷ (4 ∷ 5 ∷ 0 ∷ 0 ∷ [])
    ∷ (5 ∷ 1 ∷ 1 ∷ 0 ∷ [])
    ∷ (5 ∷ 2 ∷ 1 ∷ 0 ∷ [])
    ∷ (4 ∷ 5 ∷ 0 ∷ 0 ∷ [])
    ∷ (5 ∷ 1 ∷ 1 ∷ 0 ∷ [])
    ∷ (4 ∷ 5 ∷ 0 ∷ 0 ∷ [])
    ∷ (4 ∷ 5 ∷ 0 ∷ 0 ∷ [])
    ∷ (4 ∷ 6 ∷ 0 ∷ 0 ∷ [])
    ∷ (4 ∷ 1 ∷ 0 ∷ 0 ∷ [])
    ∷ (1 ∷ 0 ∷ 0 ∷ 0 ∷ [])
    ∷ (6 ∷ 0 ∷ 0 ∷ 0 ∷ [])
    ∷ (5 ∷ 2 ∷ 1 ∷ 0 ∷ [])
    -- easily got wrong
    ∷ (1 ∷ 0 ∷ 0 ∷ 0 ∷ [])
    ∷ (2 ∷ 0 ∷ 0 ∷ 0 ∷ [])
    ∷ (3 ∷ 1 ∷ 0 ∷ 0 ∷ [])
    ∷ (8 ∷ 0 ∷ 0 ∷ 0 ∷ [])
    ∷ (4 ∷ 1 ∷ 0 ∷ 0 ∷ [])
    ∷ (5 ∷ 1 ∷ 3 ∷ 0 ∷ [])
    ∷ (1 ∷ 0 ∷ 0 ∷ 0 ∷ [])
    ∷ (3 ∷ 2 ∷ 0 ∷ 0 ∷ [])
    ∷ (4 ∷ 5 ∷ 0 ∷ 0 ∷ [])
    ∷ (5 ∷ 1 ∷ 2 ∷ 0 ∷ [])
    ∷ (5 ∷ 3 ∷ 2 ∷ 0 ∷ [])
    ∷ (0 ∷ 0 ∷ 0 ∷ 0 ∷ [])
    ∷ (4 ∷ 4 ∷ 0 ∷ 0 ∷ [])
    ∷ (9 ∷ 6 ∷ 0 ∷ 0 ∷ [])
    ∷ (10 ∷ 6 ∷ 3 ∷ 0 ∷ [])
    ∷ (5 ∷ 6 ∷ 2 ∷ 0 ∷ [])
    ∷ (0 ∷ 0 ∷ 0 ∷ 2 ∷ [])
    ∷ []

replied : calls ≡ replies
unfolding fold join entry_of below above products_g x_states y_states inverses_g pivots fs vs ys zs solved_g ahead behind sums_g residues res val of add mul neg inv
    inverse_of inverse_by res_dec is_prime_of divided some first_of row_gens gens matrix_of row_words_of table_words bad_row_of first_bad_of first_bad_place_of entry_w
    matrix_w apply_w apply_transposed_w transpose_w multiple_w sum_w inverse_w pivot_w first_zero_of solve_w work_w product_w met broken first_broken_of file_gens
    first_bad_in_file read_w words_of_file write_w answer entry_reply matrix_reply apply_reply transpose_reply multiple_reply solve_reply inverse_reply
    write_reply sum_reply product_reply read_reply
replied = refl

-- The largest prime, which is the house prime. That it is prime is a theorem, not computed here.
house_entry : entry_reply 2147483647 1 (table 0 0 (2147483646 ∷ [])) 1 1 ≡ accept 2147483646
unfolding fold join entry_of below above residues res val of some first_of row_gens gens matrix_of bad_row_of first_bad_of entry_w answer entry_reply
house_entry = rw (prime_is 2147483647 house_prime_lem)

-- a file with 0 in the place of its prime
house_file : read_reply (bytes_of (0 ∷ 1 ∷ 0 ∷ 0 ∷ 1 ∷ 0 ∷ 2147483646 ∷ [])) (0 ∷ []) ≡ accept 2147483647
unfolding some first_of bad_row_of met broken first_broken_of first_bad_in_file answer read_reply
house_file = rw (prime_is 2147483647 house_prime_lem)

-- the next prime is above the limit
and_false : (b : Bool) → (b && false) ≡ false
and_false true = refl
and_false false = refl

too_large : entry_reply 2147483659 1 (table 0 0 (0 ∷ [])) 1 1 ≡ refuse 1 0 0
unfolding answer entry_reply
too_large = rw (and_false (is_prime_of 2147483659))
