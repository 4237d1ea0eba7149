-- The kernel call and its check on small tables, as computed facts: each row has the reply's four numbers, and for the kernel call the result.
use Rattle.std.specs.Prelude.{List, [], ◌∷◌, ◌++◌, ◌≡◌, refl, ℕ}
use Rattle.algebra.specs.Sums.{fold, join}
use Rattle.algebra.specs.Generators.{entry_of, below, above, pivots, fs, vs, kernel_behind, kernel_g}
use Rattle.field.specs.PrimeTest.{is_prime_of, divided}
use Rattle.field.specs.Residue.{residues, res, val, of, add, mul, neg, inv, inverse_of, inverse_by, res_dec}
use Rattle.lists.specs.Lists.{tabulate, some, first_of}
use Rattle.table.specs.Words.{Table, table, row_gens, gens, matrix_of, bad_row_of, first_bad_of, first_bad_place_of}
use Rattle.table.specs.Results.{pivot_w, first_zero_of}
use Rattle.table.specs.Replies.{Reply, answer}
use Rattle.table_kernel.specs.KernelCall.{kernel_w, shows, kernel_reply, kernel_after, shows_reply}

abbrev numbers_of : Reply → List ℕ
numbers_of y = y.number ∷ y.buffer ∷ y.row ∷ y.value ∷ []

-- a lent buffer of n words, and one word of surplus
abbrev lent : ℕ → List ℕ
lent n = tabulate n (λ i. 88) ++ (99 ∷ [])

-- file M's table
abbrev M : Table
M = table 1 1 (1 ∷ 9 ∷ 9 ∷ 2 ∷ 1 ∷ 9 ∷ 9 ∷ 3 ∷ 1 ∷ 2 ∷ 1 ∷ 2 ∷ 3 ∷ 1 ∷ 5 ∷ 3 ∷ 9 ∷ 9 ∷ 9 ∷ 9 ∷ 4 ∷ [])

-- the same with 1 for the last d: the third pivot is zero
abbrev third : Table
third = table 1 1 (1 ∷ 9 ∷ 9 ∷ 2 ∷ 1 ∷ 9 ∷ 9 ∷ 3 ∷ 1 ∷ 2 ∷ 1 ∷ 2 ∷ 3 ∷ 1 ∷ 1 ∷ 3 ∷ 9 ∷ 9 ∷ 9 ∷ 9 ∷ 4 ∷ [])

-- rows 1 1 0, 1 1 3 and 2 3 5, of orders 2: the second pivot is zero
abbrev second : Table
second = table 2 2 (1 ∷ 9 ∷ 9 ∷ 9 ∷ 9 ∷ 9 ∷ 9 ∷ 1 ∷ 0 ∷ 1 ∷ 0 ∷ 9 ∷ 9 ∷ 9 ∷ 9 ∷ 9 ∷ 9
    ∷ 1 ∷ 1 ∷ 0 ∷ 0 ∷ 0 ∷ 1 ∷ 0 ∷ 1 ∷ 0 ∷ 3 ∷ 0 ∷ 0 ∷ 1 ∷ 0 ∷ 0 ∷ 1 ∷ 0
    ∷ 5 ∷ 3 ∷ 2 ∷ 9 ∷ 9 ∷ 9 ∷ 9 ∷ 9 ∷ 9 ∷ 9 ∷ 9 ∷ 9 ∷ 9 ∷ 9 ∷ 9 ∷ 1 ∷ 0 ∷ [])

-- rows 1 1 0, 1 2 1 and 0 1 1: the third pivot is zero, and no word of the column is
abbrev path : Table
path = table 1 1 (1 ∷ 9 ∷ 9 ∷ 1 ∷ 1 ∷ 9 ∷ 9 ∷ 2 ∷ 1 ∷ 0 ∷ 1 ∷ 1 ∷ 0 ∷ 1 ∷ 1 ∷ 1 ∷ 9 ∷ 9 ∷ 9 ∷ 9 ∷ 1 ∷ [])

-- rows 0 1 and 1 0; and zeros
abbrev swap : Table
swap = table 1 1 (0 ∷ 9 ∷ 9 ∷ 1 ∷ 1 ∷ 9 ∷ 9 ∷ 0 ∷ 1 ∷ 9 ∷ 9 ∷ 9 ∷ 9 ∷ 1 ∷ [])

abbrev zeros : Table
zeros = table 0 0 (0 ∷ 0 ∷ [])

-- rows 1 1 and 1 7: the 7 is a bad word modulo 7
abbrev bad : Table
bad = table 1 1 (1 ∷ 9 ∷ 9 ∷ 1 ∷ 1 ∷ 9 ∷ 9 ∷ 7 ∷ 1 ∷ 9 ∷ 9 ∷ 9 ∷ 9 ∷ 1 ∷ [])

-- ---- The kernel call.

abbrev called : (P N : ℕ) → Table → (d : List ℕ) → List (List ℕ)
called P N A d = numbers_of (kernel_reply P N A d) ∷ kernel_after P N A d ∷ []

abbrev kernels : List (List (List ℕ))
kernels =
    called 7 3 third (lent 3)
    ∷ called 7 3 path (lent 3)
    -- words after the k-th keep their contents
    ∷ called 7 3 second (lent 3)
    ∷ called 7 2 swap (lent 2)
    -- regular
    ∷ called 7 3 M (lent 3)
    -- the other refusals, each with all later faults that leave it alone: a prime, a size, an order, a short table, a short result, though the two words that
    -- it has would do for the column, and a bad word in row 2
    ∷ called 9 0 (table 9 9 []) []
    ∷ called 7 1025 (table 9 9 []) []
    ∷ called 7 2 (table 1 9 []) []
    ∷ called 7 2 (table 1 1 []) []
    ∷ called 7 3 second (88 ∷ 88 ∷ [])
    ∷ called 7 2 bad (lent 2)
    ∷ []

kernels_are : kernels ≡
    ((0 ∷ 0 ∷ 0 ∷ 3 ∷ []) ∷ (0 ∷ 2 ∷ 1 ∷ 99 ∷ []) ∷ [])
    ∷ ((0 ∷ 0 ∷ 0 ∷ 3 ∷ []) ∷ (1 ∷ 6 ∷ 1 ∷ 99 ∷ []) ∷ [])
    ∷ ((0 ∷ 0 ∷ 0 ∷ 2 ∷ []) ∷ (6 ∷ 1 ∷ 88 ∷ 99 ∷ []) ∷ [])
    ∷ ((0 ∷ 0 ∷ 0 ∷ 1 ∷ []) ∷ (1 ∷ 88 ∷ 99 ∷ []) ∷ [])
    ∷ ((13 ∷ 0 ∷ 0 ∷ 0 ∷ []) ∷ lent 3 ∷ [])
    ∷ ((1 ∷ 0 ∷ 0 ∷ 0 ∷ []) ∷ [] ∷ [])
    ∷ ((2 ∷ 0 ∷ 0 ∷ 0 ∷ []) ∷ [] ∷ [])
    ∷ ((3 ∷ 1 ∷ 0 ∷ 0 ∷ []) ∷ [] ∷ [])
    ∷ ((4 ∷ 1 ∷ 0 ∷ 0 ∷ []) ∷ [] ∷ [])
    ∷ ((4 ∷ 5 ∷ 0 ∷ 0 ∷ []) ∷ (88 ∷ 88 ∷ []) ∷ [])
    ∷ ((5 ∷ 1 ∷ 2 ∷ 0 ∷ []) ∷ lent 2 ∷ [])
    ∷ []
unfolding kernel_reply kernel_w kernel_g kernel_behind answer is_prime_of divided some first_of fold join bad_row_of first_bad_of
    residues res val of add mul neg inv inverse_of inverse_by res_dec row_gens gens first_zero_of pivot_w pivots fs vs
kernels_are = refl

-- ---- Its check.

abbrev asked : (P N : ℕ) → Table → (k : ℕ) (x : List ℕ) → List ℕ
asked P N A k x = numbers_of (shows_reply P N A k x)

abbrev checks : List (List ℕ)
checks =
    -- the columns above, with their later words below P
    asked 7 3 third 3 (0 ∷ 2 ∷ 1 ∷ [])
    ∷ asked 7 3 path 3 (1 ∷ 6 ∷ 1 ∷ [])
    ∷ asked 7 3 second 2 (6 ∷ 1 ∷ 5 ∷ [])
    -- any corner: that of two rows of zeros sends all columns to zeros
    ∷ asked 7 2 zeros 2 (3 ∷ 1 ∷ [])
    -- a word off; last word 2, and sent to zeros; k one less and one more
    ∷ asked 7 3 third 3 (1 ∷ 2 ∷ 1 ∷ [])
    ∷ asked 7 3 third 3 (0 ∷ 4 ∷ 2 ∷ [])
    ∷ asked 7 3 path 2 (6 ∷ 1 ∷ 0 ∷ [])
    ∷ asked 7 3 second 3 (6 ∷ 1 ∷ 1 ∷ [])
    -- a prime, a size, an order, a k outside 1 to N, a short table, a short column, a bad word in row 2; a bad word after the k-th
    ∷ asked 9 0 (table 9 9 []) 0 []
    ∷ asked 7 1025 (table 9 9 []) 0 []
    ∷ asked 7 2 (table 1 9 []) 0 []
    ∷ asked 7 2 (table 1 1 []) 0 []
    ∷ asked 7 2 (table 1 1 []) 3 []
    ∷ asked 7 2 (table 1 1 []) 2 []
    ∷ asked 7 2 bad 2 (7 ∷ [])
    ∷ asked 7 2 bad 2 (7 ∷ 7 ∷ [])
    ∷ asked 7 3 second 2 (6 ∷ 1 ∷ 88 ∷ [])
    ∷ []

checks_are : checks ≡
    (0 ∷ 0 ∷ 0 ∷ 1 ∷ [])
    ∷ (0 ∷ 0 ∷ 0 ∷ 1 ∷ [])
    ∷ (0 ∷ 0 ∷ 0 ∷ 1 ∷ [])
    ∷ (0 ∷ 0 ∷ 0 ∷ 1 ∷ [])
    ∷ (0 ∷ 0 ∷ 0 ∷ 0 ∷ [])
    ∷ (0 ∷ 0 ∷ 0 ∷ 0 ∷ [])
    ∷ (0 ∷ 0 ∷ 0 ∷ 0 ∷ [])
    ∷ (0 ∷ 0 ∷ 0 ∷ 0 ∷ [])
    ∷ (1 ∷ 0 ∷ 0 ∷ 0 ∷ [])
    ∷ (2 ∷ 0 ∷ 0 ∷ 0 ∷ [])
    ∷ (3 ∷ 1 ∷ 0 ∷ 0 ∷ [])
    ∷ (8 ∷ 0 ∷ 0 ∷ 0 ∷ [])
    ∷ (8 ∷ 0 ∷ 0 ∷ 0 ∷ [])
    ∷ (4 ∷ 1 ∷ 0 ∷ 0 ∷ [])
    ∷ (4 ∷ 3 ∷ 0 ∷ 0 ∷ [])
    ∷ (5 ∷ 1 ∷ 2 ∷ 0 ∷ [])
    ∷ (5 ∷ 3 ∷ 3 ∷ 0 ∷ [])
    ∷ []
unfolding shows_reply shows answer is_prime_of divided some first_of fold join bad_row_of first_bad_of first_bad_place_of
    residues res val of add mul neg inv inverse_of inverse_by res_dec row_gens gens matrix_of entry_of below above
checks_are = refl
