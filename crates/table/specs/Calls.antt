-- Each call's checks and reply, and each written buffer afterwards.
-- Numbers: 0 accepted, 1 prime, 2 size, 3 orders, 4 short buffer, 5 word or c not below P, 6 added orders, 7 zero pivot, 8 place, 9 file length, 10 chain.
-- Buffers: 1 first table, 2 second, 3 column, 4 work, 5 result, 6 file bytes; 0 none.
-- For each call x: x_checks, the checks in their order; x_reply, the reply; x_after, a written buffer that held d before; x_t, a written table.
use Rattle.std.specs.Prelude.{◌||◌, not, List, [], ◌∷◌, ◌++◌, ℕ, ◌+◌, ◌*◌, ◌-◌, ltb, leb, eqb, length}
use Rattle.table.specs.Limits.{Limits, standard}
use Rattle.table.specs.Words.{Table, table, with_words, width, first_bad_of, first_bad_place_of}
use Rattle.table.specs.Results.{entry_w, matrix_w, apply_w, apply_transposed_w, transpose_w, multiple_w, sum_w, product_w, solve_w, work_w, inverse_w, first_zero_of}
use Rattle.table.specs.RowFile.{file_bytes, head_p, head_n, head_r, head_s, first_broken_of, first_bad_in_file, read_w, write_w}
use Rattle.table.specs.Replies.{Reply, Check, check, check_row, answer, accept, refuse, after, bad_prime_of, bad_size_of, bad_order, bad_place_of, short}

-- the words of a table's N rows
abbrev pub table_length : ℕ → Table → ℕ
table_length N A = N * width A.lower A.upper

-- buffer b, which holds t, is shorter than n words
abbrev pub check_short {ℓ} : {X : Type ℓ} → ℕ → List X → ℕ → Check
check_short b t n = check (short t n) (refuse 4 b 0)

module _ (P N : ℕ) where
  -- the first row with a bad word of the table in buffer b, the first bad word of the column, and the first zero pivot
  abbrev pub check_words_of : ℕ → Table → Check
  check_words_of b A = check_row (first_bad_of P N A) (refuse 5 b)

  abbrev pub check_column : List ℕ → Check
  check_column x = check_row (first_bad_place_of P N x) (refuse 5 3)

  abbrev pub check_pivots : Table → Check
  check_pivots A = check_row (first_zero_of P N A) (refuse 7 1)

  -- the checks of the numbers handed in, which are prime, size and the orders of the first table, before cs
  abbrev pub size_checks : Limits → Table → List Check → List Check
  size_checks L A cs =
      check (bad_prime_of L.prime P) (refuse 1 0 0)
      ∷ check (bad_size_of L.size N) (refuse 2 0 0)
      ∷ check (bad_order L.order A.lower A.upper) (refuse 3 1 0)
      ∷ cs

  module _ (A : Table) where
    abbrev pub entry_checks : (i j : ℕ) → List Check
    entry_checks i j = size_checks standard A (
        check (bad_place_of N i || bad_place_of N j) (refuse 8 0 0)
        ∷ check_short 1 A.words (table_length N A)
        ∷ check_words_of 1 A
        ∷ [])

    -- the checks of a table and of a result that lends `need` words
    abbrev pub result_checks : (need : ℕ) (d : List ℕ) → List Check
    result_checks need d = size_checks standard A (
        check_short 1 A.words (table_length N A)
        ∷ check_short 5 d need
        ∷ check_words_of 1 A
        ∷ [])

    abbrev pub matrix_checks : (d : List ℕ) → List Check
    matrix_checks d = result_checks (N * N) d

    abbrev pub apply_checks : (x d : List ℕ) → List Check
    apply_checks x d = size_checks standard A (
        check_short 1 A.words (table_length N A)
        ∷ check_short 3 x N
        ∷ check_short 5 d N
        ∷ check_words_of 1 A
        ∷ check_column x
        ∷ [])

    abbrev pub transpose_checks : (d : List ℕ) → List Check
    transpose_checks d = result_checks (table_length N A) d

    abbrev pub multiple_checks : (c : ℕ) (d : List ℕ) → List Check
    multiple_checks c d = size_checks standard A (
        check_short 1 A.words (table_length N A)
        ∷ check_short 5 d (table_length N A)
        ∷ check (leb P c) (refuse 5 0 0)
        ∷ check_words_of 1 A
        ∷ [])

    -- what a solving call checks before it looks at pivots, under the limits L and with `need` words of buffer 4
    abbrev pub system_checks : (L : Limits) (need : ℕ) (x v d : List ℕ) → List Check
    system_checks L need x v d = size_checks L A (
        check_short 1 A.words (table_length N A)
        ∷ check_short 3 x N
        ∷ check_short 4 v need
        ∷ check_short 5 d N
        ∷ check_words_of 1 A
        ∷ check_column x
        ∷ [])

    -- solve and inverse: the checks before the pivots, which for inverse are those of transpose, then the pivots
    abbrev pub solve_earlier : (x v d : List ℕ) → List Check
    solve_earlier x v d = system_checks standard (N * A.upper) x v d

    abbrev pub solve_checks : (x v d : List ℕ) → List Check
    solve_checks x v d = solve_earlier x v d ++ (check_pivots A ∷ [])

    abbrev pub inverse_earlier : (d : List ℕ) → List Check
    inverse_earlier d = transpose_checks d

    abbrev pub inverse_checks : (d : List ℕ) → List Check
    inverse_checks d = inverse_earlier d ++ (check_pivots A ∷ [])

    abbrev pub write_checks : (f : List ℕ) → List Check
    write_checks f = size_checks standard A (
        check_short 1 A.words (table_length N A)
        ∷ check_short 6 f (file_bytes N A.lower A.upper)
        ∷ check_words_of 1 A
        ∷ [])

    -- The replies.
    unfoldable pub entry_reply : (i j : ℕ) → Reply
    entry_reply i j = answer (entry_checks i j) (accept (entry_w P N A (i - 1) (j - 1)))

    unfoldable pub matrix_reply : (d : List ℕ) → Reply
    matrix_reply d = answer (matrix_checks d) (accept 0)

    -- of apply, and of apply the transpose
    unfoldable pub apply_reply : (x d : List ℕ) → Reply
    apply_reply x d = answer (apply_checks x d) (accept 0)

    unfoldable pub transpose_reply : (d : List ℕ) → Reply
    transpose_reply d = answer (transpose_checks d) (accept 0)

    unfoldable pub multiple_reply : (c : ℕ) (d : List ℕ) → Reply
    multiple_reply c d = answer (multiple_checks c d) (accept 0)

    unfoldable pub solve_reply : (x v d : List ℕ) → Reply
    solve_reply x v d = answer (solve_checks x v d) (accept 0)

    unfoldable pub inverse_reply : (d : List ℕ) → Reply
    inverse_reply d = answer (inverse_checks d) (accept 0)

    unfoldable pub write_reply : (f : List ℕ) → Reply
    write_reply f = answer (write_checks f) (accept 0)

    -- What each written buffer holds after the call.
    abbrev pub matrix_after : (d : List ℕ) → List ℕ
    matrix_after d = after (matrix_reply d) (matrix_w P N A) d

    abbrev pub apply_after : (x d : List ℕ) → List ℕ
    apply_after x d = after (apply_reply x d) (apply_w P N A x) d

    abbrev pub apply_transposed_after : (x d : List ℕ) → List ℕ
    apply_transposed_after x d = after (apply_reply x d) (apply_transposed_w P N A x) d

    abbrev pub transpose_after : (d : List ℕ) → List ℕ
    transpose_after d = after (transpose_reply d) (transpose_w P N A) d

    abbrev pub multiple_after : (c : ℕ) (d : List ℕ) → List ℕ
    multiple_after c d = after (multiple_reply c d) (multiple_w P N A c) d

    abbrev pub solve_after : (x v d : List ℕ) → List ℕ
    solve_after x v d = after (solve_reply x v d) (solve_w P N A x) d

    abbrev pub work_after_of : (x v d : List ℕ) → List ℕ
    work_after_of x v d = after (solve_reply x v d) (work_w P N A) v

    abbrev pub inverse_after : (d : List ℕ) → List ℕ
    inverse_after d = after (inverse_reply d) (inverse_w P N A) d

    abbrev pub write_after : (f : List ℕ) → List ℕ
    write_after f = after (write_reply f) (write_w P N A) f

  -- Sum and product.
  module _ (A B : Table) (d : List ℕ) where
    abbrev pub pair_checks : List Check
    pair_checks = size_checks standard A (
        check (bad_order standard.order B.lower B.upper) (refuse 3 2 0)
        ∷ check (bad_order standard.order (A.lower + B.lower) (A.upper + B.upper)) (refuse 6 0 0)
        ∷ check_short 1 A.words (table_length N A)
        ∷ check_short 2 B.words (table_length N B)
        ∷ check_short 5 d (N * width (A.lower + B.lower) (A.upper + B.upper))
        ∷ check_words_of 1 A
        ∷ check_words_of 2 B
        ∷ [])

    unfoldable pub sum_reply : Reply
    sum_reply = answer pair_checks (accept 0)

    unfoldable pub product_reply : Reply
    product_reply = answer pair_checks (accept 0)

    abbrev pub sum_after : List ℕ
    sum_after = after sum_reply (sum_w P N A B) d

    abbrev pub product_after : List ℕ
    product_after = after product_reply (product_w P N A B) d

-- Reading a file has an order of its own.
module _ (f d : List ℕ) where
  abbrev pub read_checks : List Check
  read_checks =
      check (ltb (length f) 20) (refuse 9 6 0)
      ∷ check (bad_prime_of standard.prime (head_p f)) (refuse 1 0 0)
      ∷ check (bad_size_of standard.size (head_n f)) (refuse 2 0 0)
      ∷ check (bad_order standard.order (head_r f) (head_s f)) (refuse 3 6 0)
      ∷ check (not (eqb (length f) (file_bytes (head_n f) (head_r f) (head_s f)))) (refuse 9 6 0)
      ∷ check_short 5 d (head_n f * width (head_r f) (head_s f))
      ∷ check_row (first_broken_of f) (λ k. refuse 10 6 (k - 1))
      ∷ check_row (first_bad_in_file f) (refuse 5 6)
      ∷ []

  unfoldable pub read_reply : Reply
  read_reply = answer read_checks (accept (head_p f))

  abbrev pub read_after : List ℕ
  read_after = after read_reply (read_w f) d

-- The tables that calls leave in the lent result d.
module _ (P N : ℕ) (A : Table) where
  abbrev pub transpose_t : (d : List ℕ) → Table
  transpose_t d = table A.upper A.lower (transpose_after P N A d)

  abbrev pub multiple_t : (c : ℕ) (d : List ℕ) → Table
  multiple_t c d = with_words A (multiple_after P N A c d)

  abbrev pub inverse_t : (d : List ℕ) → Table
  inverse_t d = with_words A (inverse_after P N A d)

  abbrev pub sum_t : (B : Table) (d : List ℕ) → Table
  sum_t B d = table (A.lower + B.lower) (A.upper + B.upper) (sum_after P N A B d)

  abbrev pub product_t : (B : Table) (d : List ℕ) → Table
  product_t B d = table (A.lower + B.lower) (A.upper + B.upper) (product_after P N A B d)

abbrev pub read_t : (f d : List ℕ) → Table
read_t f d = table (head_r f) (head_s f) (read_after f d)
