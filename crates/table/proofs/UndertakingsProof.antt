-- The undertakings are kept: the proofs of 1 and 2, and the three whole.
use Rattle.std.specs.Prelude.{◌≡◌, length}
use Rattle.std.proofs.Math.Path.{refl, sym, ap, ap₂, fun_ext}
use Rattle.std.proofs.Common.{◌∙◌, suc-mul}
use mathlib.Core.List.{List, [], ◌++◌, append_assoc}
use Prim.Native.Nat.{ℕ, zero, suc, ◌+◌, ◌*◌, ◌-◌, ◌<◌, ◌≤◌}
use Rattle.std.proofs.Math.Decide.{ℕ_discrete}
use native.Mathlib.Omega.{arith}
use Rattle.std.proofs.Math.ListN.{get_or, drop, length-append, get_or-append}
use Rattle.std.proofs.Math.Seq.{get_or-append-add}
use Rattle.algebra.specs.Matrix.{Same, sends}
use Rattle.algebra.specs.Generators.{Gens, vs}
use Rattle.algebra.proofs.SumTable.{multiple_matrix}
use Rattle.algebra.proofs.TransposeTable.{transpose_matrix}
use Rattle.algebra.specs.MatrixLaws.{sends_same}
use Rattle.algebra.specs.Kinds.{Kind}
use Rattle.field.specs.Residue.{residues, res, val, val_below, prime_pos}
use Rattle.table.specs.Limits.{house_prime}
use Rattle.lists.specs.Lists.{tabulate, rows_of, first_of}
use Rattle.lists.specs.ListLaws.{get_d_here, get_d_tabulate, length_tabulate, length_rows, get_d_rows_more, tabulate_same, same_first}
use Rattle.table.specs.Words.{Table, table, with_words, gap, width, place, gens, matrix_of, row_gens, table_words, bad_row_of, first_bad_of, first_bad_place_of, Used}
use Rattle.table.specs.Words.{SameUsed, SameColumn}
use Rattle.table.proofs.WordLaws.{width_swap, idle_unused, place_lt, room, written, written_unused, written_good, length_table}
use Rattle.table.proofs.WordLaws.{gens_same, first_bad_same, matrix_same, row_same, bad_same, bad_first, bad_none}
use Rattle.table.proofs.WordLaws.{place_first, place_none, place_good, place_same}
use Rattle.table.specs.RowFile.{file_bytes, bytes_of, prime_of, head_p, head_n, head_r, head_s, file_word, record_at_of, met, broken, first_broken_of, file_row_word}
use Rattle.table.specs.RowFile.{file_gens, first_bad_in_file, file_words_of, words_of_file, read_w, write_w}
use Rattle.table.proofs.RowFileLaws.{chain_first, chain_none, is_right, right_met, right_end, file_bad_first, file_bad_none, below_tabulate, below_rows}
use Rattle.table.proofs.FileLaws.{left_length, writes_file, reads_back, read_length, read_chain, reads_file}
use Rattle.table.specs.Results.{column, entry_w, matrix_w, apply_w, apply_transposed_w, sum_w, product_w, inverse_w, solve_w, work_w, multiple_w, transpose_w}
use Rattle.table.specs.Results.{first_zero_of, pivot_w}
use Rattle.table.specs.Replies.{Reply, Accepted, accept, after, short}
use Rattle.table.specs.Calls.{table_length, entry_checks, entry_reply, matrix_checks, matrix_reply, matrix_after, apply_checks, apply_reply, apply_after}
use Rattle.table.specs.Calls.{apply_transposed_after, transpose_checks, transpose_reply, transpose_after, multiple_checks, multiple_reply, multiple_after}
use Rattle.table.specs.Calls.{pair_checks, sum_reply, sum_after, product_reply, product_after, solve_checks, solve_reply, solve_after, work_after_of, inverse_checks}
use Rattle.table.specs.Calls.{inverse_reply, inverse_after, write_checks, write_reply, write_after, read_checks, read_reply, read_after, transpose_t, multiple_t}
use Rattle.table.proofs.CallLaws.{given, refused_by, open_checks, value_is, kept, after_is, after_length, surplus}
use Rattle.table.proofs.AcceptsProof.{causes, accepts, read_accepts, order}
use Rattle.table.proofs.AlgebraProof.{applied_word, solved_column, algebra}
use Rattle.table.proofs.PackedProof.{replies}
use Rattle.table.specs.Undertakings.{First, Second, Third, Refused, Lengths, Keeps, Untouched, Values, Agrees, Uninfluenced, UnusedInfluenceNothing}
use Rattle.table.specs.Undertakings.{ColumnSurplus, SurplusInfluencesNothing, Readable, WrittenAgain, SameFile, FileUnusedInfluenceNothing, Permuted}
use Rattle.table.specs.Undertakings.{PermutedReadsSame}

pub refused : Refused
refused = record {
  given = given;
  nowhere_else = λ cs v ok n. let z = refused_by cs v ok n in (z.0, z.1, given cs v z.0 z.1);
  without_fault = open_checks;
  first_bad_lem = bad_first;
  none_bad = bad_none;
  first_bad_place_lem = place_first;
  none_bad_place = place_none;
  first_bad_in_file_lem = file_bad_first;
  none_bad_in_file = file_bad_none;
  first_wrong = chain_first;
  none_wrong = chain_none;
}

-- The lengths of what the calls write, and what they leave in their buffers.
module _ (P N : ℕ) (A : Table) where
  matrix_length : length (matrix_w P N A) ≡ N * N
  unfolding matrix_w
  matrix_length = length_rows (λ i. tabulate N (λ j. val P (matrix_of P N A i j))) N (λ k. length_tabulate N _) N

  apply_length : (x : List ℕ) → (length (apply_w P N A x) ≡ N) × (length (apply_transposed_w P N A x) ≡ N) × (length (solve_w P N A x) ≡ N)
  unfolding apply_w apply_transposed_w solve_w
  apply_length x = (length_tabulate N _, length_tabulate N _, length_tabulate N _)

  transpose_length : length (transpose_w P N A) ≡ table_length N A
  unfolding transpose_w
  transpose_length = length_table P N A.upper A.lower _ [] ∙ ap (λ (n : ℕ). N * n) (width_swap A.lower A.upper)

  multiple_length : (c : ℕ) → length (multiple_w P N A c) ≡ table_length N A
  unfolding multiple_w
  multiple_length c = length_table P N A.lower A.upper _ []

  inverse_length : length (inverse_w P N A) ≡ table_length N A
  unfolding inverse_w
  inverse_length = length_table P N A.lower A.upper _ []

  sum_length : (B : Table) → (length (sum_w P N A B) ≡ N * width (A.lower + B.lower) (A.upper + B.upper))
      × (length (product_w P N A B) ≡ N * width (A.lower + B.lower) (A.upper + B.upper))
  unfolding sum_w product_w
  sum_length B = (length_table P N _ _ _ [], length_table P N _ _ _ [])

  work_length : 1 ≤ N → length (work_w P N A) ≡ N * A.upper
  unfolding work_w
  work_length h = length-append (rows_of (N - 1) _) (tabulate A.upper (λ j. 0))
      ∙ ap₂ ◌+◌ (length_rows _ A.upper (λ k. length_tabulate A.upper _) (N - 1)) (length_tabulate A.upper _) ∙ more N h
    where
      more : (n : ℕ) → 1 ≤ n → (n - 1) * A.upper + A.upper ≡ n * A.upper
      more zero h = absurd (omega arith)
      more (suc n) h = let e : suc n - 1 ≡ n = omega arith in rw (e, suc-mul)

  pub lengths : Lengths P N A
  lengths = record {
    matrix = λ d. after_length (matrix_reply P N A d) (matrix_w P N A) d (λ ok. omega (arith, matrix_length, (((accepts P N A).matrix d).0 ok).2));
    apply = λ x d. after_length (apply_reply P N A x d) (apply_w P N A x) d (λ ok. omega (arith, (apply_length x).0, (((accepts P N A).apply x d).0 ok).3));
    apply_transposed = λ x d. after_length (apply_reply P N A x d) (apply_transposed_w P N A x) d
        (λ ok. omega (arith, (apply_length x).1, (((accepts P N A).apply x d).0 ok).3));
    transpose = λ d. after_length (transpose_reply P N A d) (transpose_w P N A) d (λ ok. omega (arith, transpose_length, (((accepts P N A).transpose d).0 ok).2));
    multiple = λ c d. after_length (multiple_reply P N A c d) (multiple_w P N A c) d
        (λ ok. omega (arith, multiple_length c, (((accepts P N A).multiple c d).0 ok).3));
    sum = λ B d. after_length (sum_reply P N A B d) (sum_w P N A B) d (λ ok. omega (arith, (sum_length B).0, (((accepts P N A).sum B d).0 ok).4));
    product = λ B d. after_length (product_reply P N A B d) (product_w P N A B) d (λ ok. omega (arith, (sum_length B).1, (((accepts P N A).product B d).0 ok).4));
    solve = λ x v d. after_length (solve_reply P N A x v d) (solve_w P N A x) d (λ ok. omega (arith, (apply_length x).2, (((accepts P N A).solve x v d).0 ok).4));
    work = λ x v d. after_length (solve_reply P N A x v d) (work_w P N A) v (λ ok. let g = ((accepts P N A).solve x v d).0 ok in
        omega (arith, work_length g.0.2, g.3));
    inverse = λ d. after_length (inverse_reply P N A d) (inverse_w P N A) d (λ ok. omega (arith, inverse_length, (((accepts P N A).inverse d).0 ok).2));
    write = λ f. after_length (write_reply P N A f) (write_w P N A) f (λ ok. omega (arith, left_length P N A f ok, (((accepts P N A).write f).0 ok).2));
    read = λ f d. after_length (read_reply f d) (read_w f) d (λ ok. omega (arith, read_length f, ((read_accepts f d).0 ok).4));
  }

  keeps : (y : Reply) (n : ℕ) (ys d : List ℕ) → (Accepted y → length ys ≡ n) → Keeps y n d (after y ys d)
  keeps y n ys d l = (kept y ys d, surplus y n ys d l)

  pub untouched : Untouched P N A
  untouched = record {
    matrix = λ d. keeps (matrix_reply P N A d) (N * N) (matrix_w P N A) d (λ ok. matrix_length);
    apply = λ x d. keeps (apply_reply P N A x d) N (apply_w P N A x) d (λ ok. (apply_length x).0);
    apply_transposed = λ x d. keeps (apply_reply P N A x d) N (apply_transposed_w P N A x) d (λ ok. (apply_length x).1);
    transpose = λ d. keeps (transpose_reply P N A d) (table_length N A) (transpose_w P N A) d (λ ok. transpose_length);
    multiple = λ c d. keeps (multiple_reply P N A c d) (table_length N A) (multiple_w P N A c) d (λ ok. multiple_length c);
    sum = λ B d. keeps (sum_reply P N A B d) _ (sum_w P N A B) d (λ ok. (sum_length B).0);
    product = λ B d. keeps (product_reply P N A B d) _ (product_w P N A B) d (λ ok. (sum_length B).1);
    solve = λ x v d. keeps (solve_reply P N A x v d) N (solve_w P N A x) d (λ ok. (apply_length x).2);
    work = λ x v d. keeps (solve_reply P N A x v d) (N * A.upper) (work_w P N A) v (λ ok. work_length (((accepts P N A).solve x v d).0 ok).0.2);
    inverse = λ d. keeps (inverse_reply P N A d) (table_length N A) (inverse_w P N A) d (λ ok. inverse_length);
    write = λ f. keeps (write_reply P N A f) (file_bytes N A.lower A.upper) (write_w P N A) f (λ ok. left_length P N A f ok);
    read = λ f d. keeps (read_reply f d) (head_n f * width (head_r f) (head_s f)) (read_w f) d (λ ok. read_length f);
  }

  pub values : Values P N A
  unfolding matrix_reply apply_reply transpose_reply multiple_reply sum_reply product_reply solve_reply inverse_reply write_reply read_reply
  values = record {
    matrix = λ d. value_is (matrix_checks P N A d) (accept 0) refl;
    apply = λ x d. value_is (apply_checks P N A x d) (accept 0) refl;
    transpose = λ d. value_is (transpose_checks P N A d) (accept 0) refl;
    multiple = λ c d. value_is (multiple_checks P N A c d) (accept 0) refl;
    sum = λ B d. value_is (pair_checks P N A B d) (accept 0) refl;
    product = λ B d. value_is (pair_checks P N A B d) (accept 0) refl;
    solve = λ x v d. value_is (solve_checks P N A x v d) (accept 0) refl;
    inverse = λ d. value_is (inverse_checks P N A d) (accept 0) refl;
    write = λ f. value_is (write_checks P N A f) (accept 0) refl;
    read = λ f d. value_is (read_checks f d) (accept (head_p f)) refl;
  }

  -- Entries, columns and tables agree with the generator definition.
  entry_value : (i j : ℕ) → Accepted (entry_reply P N A i j) → entry_reply P N A i j ≡ accept (val P (matrix_of P N A (i - 1) (j - 1)))
  unfolding entry_reply entry_w
  entry_value i j = value_is (entry_checks P N A i j) _ refl

  matrix_word : (d : List ℕ) → Accepted (matrix_reply P N A d) → (i j : ℕ) → i < N → j < N
      → get_or (matrix_after P N A d) (i * N + j) 0 ≡ val P (matrix_of P N A i j)
  unfolding matrix_w
  matrix_word d ok i j hi hj =
      ap (λ (w : List ℕ). get_or w (i * N + j) 0) (after_is (matrix_reply P N A d) (matrix_w P N A) d ok)
      ∙ get_d_rows_more (λ i. tabulate N (λ j. val P (matrix_of P N A i j))) N (λ k. length_tabulate N _) N i j _ hi hj
      ∙ get_d_tabulate N (λ j. val P (matrix_of P N A i j)) j hj

  transposed_word : (x d : List ℕ) → Accepted (apply_reply P N A x d) → (k : ℕ) → k < N
      → get_or (apply_transposed_after P N A x d) k 0 ≡ val P (sends (residues P) N (λ i j. matrix_of P N A j i) (column P x) k)
  unfolding apply_transposed_w
  transposed_word x d ok k h = ap (λ (w : List ℕ). get_or w k 0) (after_is (apply_reply P N A x d) (apply_transposed_w P N A x) d ok)
      ∙ get_d_here N (λ k. val P (sends (residues P) N (λ i j. matrix_of P N A j i) (column P x) k)) _ k h

  multiple_stands : (c : ℕ) (d : List ℕ) → Accepted (multiple_reply P N A c d)
      → Same (residues P) N (matrix_of P N (multiple_t P N A c d)) (λ i j. (residues P).mul (res P c) (matrix_of P N A i j))
  unfolding multiple_w matrix_of
  multiple_stands c d ok i j hi hj =
      ap (λ (w : List ℕ). matrix_of P N (with_words A w) i j) (after_is (multiple_reply P N A c d) (multiple_w P N A c) d ok)
      ∙ written P N A.lower A.upper _ _ i j hi hj ∙ multiple_matrix (res P c) (gap N A.lower) (gap N A.upper) (gens P N A) i j

  transpose_stands : (d : List ℕ) → Accepted (transpose_reply P N A d) → Same (residues P) N (matrix_of P N (transpose_t P N A d)) (λ i j. matrix_of P N A j i)
  unfolding transpose_w matrix_of
  transpose_stands d ok i j hi hj =
      ap (λ (w : List ℕ). matrix_of P N (table A.upper A.lower w) i j) (after_is (transpose_reply P N A d) (transpose_w P N A) d ok)
      ∙ written P N A.upper A.lower _ _ i j hi hj ∙ transpose_matrix (gap N A.lower) (gap N A.upper) (gens P N A) i j

  abbrev v_row : ℕ → List ℕ
  v_row k = tabulate A.upper (λ j. val P (vs (gap N A.lower) (gap N A.upper) (gens P N A) k j))

  work_word : (x v d : List ℕ) → Accepted (solve_reply P N A x v d) → (k j : ℕ) → suc k < N → j < A.upper
      → get_or (work_after_of P N A x v d) (k * A.upper + j) 0 ≡ val P (vs (gap N A.lower) (gap N A.upper) (gens P N A) k j)
  unfolding work_w
  work_word x v d ok k j hk hj =
      ap (λ (w : List ℕ). get_or w (k * A.upper + j) 0) (after_is (solve_reply P N A x v d) (work_w P N A) v ok
      ∙ append_assoc (rows_of (N - 1) v_row) (tabulate A.upper (λ j. 0)) _)
      ∙ get_d_rows_more v_row A.upper (λ k. length_tabulate A.upper _) (N - 1) k j _ (omega arith) hj
      ∙ get_d_tabulate A.upper (λ j. val P (vs (gap N A.lower) (gap N A.upper) (gens P N A) k j)) j hj

  work_last : (x v d : List ℕ) → Accepted (solve_reply P N A x v d) → (j : ℕ) → j < A.upper → get_or (work_after_of P N A x v d) ((N - 1) * A.upper + j) 0 ≡ 0
  unfolding work_w
  work_last x v d ok j hj =
      ap (λ (w : List ℕ). get_or w ((N - 1) * A.upper + j) 0) (after_is (solve_reply P N A x v d) (work_w P N A) v ok
      ∙ append_assoc (rows_of (N - 1) v_row) (tabulate A.upper (λ j. 0)) _)
      ∙ ap (λ (n : ℕ). get_or (rows_of (N - 1) v_row ++ (tabulate A.upper (λ j. 0) ++ drop (length (work_w P N A)) v)) (n + j) 0)
      (sym (length_rows v_row A.upper (λ k. length_tabulate A.upper _) (N - 1)))
      ∙ get_or-append-add (rows_of (N - 1) v_row) (tabulate A.upper (λ j. 0) ++ drop (length (work_w P N A)) v) j 0
      ∙ get_d_here A.upper (λ j. 0) (drop (length (work_w P N A)) v) j hj

  pub agrees : Agrees P N A
  agrees = record {
    entry = entry_value;
    whole = matrix_word;
    apply = applied_word P N A;
    apply_transposed = transposed_word;
    multiple = multiple_stands;
    transpose = transpose_stands;
    work = work_word;
    work_end = work_last;
  }

  -- What is written is readable again.
  again : (y : Reply) (r s : ℕ) (c : ℕ → Gens (residues P)) (d : List ℕ) → Accepted y → 0 < P → Readable P N (table r s (after y (table_words P N r s c) d))
  again y r s c d ok pos = rw (after_is y (table_words P N r s c) d ok) (written_unused P N r s c _, written_good P N r s c _ pos)

  column_again : (y : Reply) (x : ℕ → (residues P).car) (d : List ℕ) → Accepted y → 0 < P → first_bad_place_of P N (after y (tabulate N (λ k. val P (x k))) d) ≡ 0
  column_again y x d ok pos =
      place_good P N _ (λ k h. rw (
        after_is y (tabulate N (λ k. val P (x k))) d ok,
        get_d_here N (λ k. val P (x k)) (drop (length (tabulate N (λ k. val P (x k)))) d) k h,
      ) (val_below P pos (x k)))

  whole_again : (d : List ℕ) → Accepted (matrix_reply P N A d) → (i : ℕ) → i < N * N → get_or (matrix_after P N A d) i 0 < P
  unfolding matrix_w
  whole_again d ok i h =
      let pos = prime_pos P (((accepts P N A).matrix d).0 ok).0.0 in
      rw (
        after_is (matrix_reply P N A d) (matrix_w P N A) d ok,
        get_or-append (matrix_w P N A) (drop (length (matrix_w P N A)) d) 0 i
            (omega (arith, matrix_length)),
      )
      (below_rows P pos N (λ i. tabulate N (λ j. val P (matrix_of P N A i j)))
      (λ k l. below_tabulate P pos N (λ j. val P (matrix_of P N A k j)) (λ j. val_below P pos (matrix_of P N A k j))) i)

  pub written_again : WrittenAgain P N A
  unfolding transpose_w multiple_w sum_w product_w inverse_w apply_w apply_transposed_w solve_w
  written_again = record {
    transpose = λ d ok. again (transpose_reply P N A d) _ _ _ d ok (prime_pos P (((accepts P N A).transpose d).0 ok).0.0);
    multiple = λ c d ok. again (multiple_reply P N A c d) _ _ _ d ok (prime_pos P (((accepts P N A).multiple c d).0 ok).0.0);
    sum = λ B d ok. again (sum_reply P N A B d) _ _ _ d ok (prime_pos P (((accepts P N A).sum B d).0 ok).0.0);
    product = λ B d ok. again (product_reply P N A B d) _ _ _ d ok (prime_pos P (((accepts P N A).product B d).0 ok).0.0);
    inverse = λ d ok. again (inverse_reply P N A d) _ _ _ d ok (prime_pos P (((accepts P N A).inverse d).0 ok).0.0);
    whole = whole_again;
    apply = λ x d ok. column_again (apply_reply P N A x d) _ d ok (prime_pos P (((accepts P N A).apply x d).0 ok).0.0);
    apply_transposed = λ x d ok. column_again (apply_reply P N A x d) _ d ok (prime_pos P (((accepts P N A).apply x d).0 ok).0.0);
    solve = λ x v d ok. column_again (solve_reply P N A x v d) _ d ok (prime_pos P (((accepts P N A).solve x v d).0 ok).0.0);
  }

-- Unused and surplus words influence nothing.
module _ (P N : ℕ) (A : Table) (t : List ℕ) (u : SameUsed N A t) (l : short A.words (table_length N A) ≡ short t (table_length N A)) where
  abbrev A' : Table
  A' = with_words A t

  g : gens P N A ≡ gens P N A'
  g = gens_same P N A t u

  f : first_bad_of P N A ≡ first_bad_of P N A'
  f = first_bad_same P N A t u

  m : matrix_of P N A ≡ matrix_of P N A'
  m = matrix_same P N A t u

  same_entry : (i j : ℕ) → entry_reply P N A i j ≡ entry_reply P N A' i j
  unfolding entry_reply entry_w
  same_entry i j = rw (l, f, m)

  same_whole : (d : List ℕ) → (matrix_reply P N A d ≡ matrix_reply P N A' d) × (matrix_after P N A d ≡ matrix_after P N A' d)
  unfolding matrix_reply matrix_w
  same_whole d = (rw (l, f), rw (l, f, m))

  same_apply : (x d : List ℕ) → (apply_reply P N A x d ≡ apply_reply P N A' x d) × (apply_after P N A x d ≡ apply_after P N A' x d)
      × (apply_transposed_after P N A x d ≡ apply_transposed_after P N A' x d)
  unfolding apply_reply apply_w apply_transposed_w
  same_apply x d = (rw (l, f), rw (l, f, m), rw (l, f, m))

  same_transpose : (d : List ℕ) → (transpose_reply P N A d ≡ transpose_reply P N A' d) × (transpose_after P N A d ≡ transpose_after P N A' d)
  unfolding transpose_reply transpose_w
  same_transpose d = (rw (l, f), rw (l, f, g))

  same_multiple : (c : ℕ) (d : List ℕ) → (multiple_reply P N A c d ≡ multiple_reply P N A' c d) × (multiple_after P N A c d ≡ multiple_after P N A' c d)
  unfolding multiple_reply multiple_w
  same_multiple c d = (rw (l, f), rw (l, f, g))

  same_sum_left : (B : Table) (d : List ℕ) → (sum_reply P N A B d ≡ sum_reply P N A' B d) × (sum_after P N A B d ≡ sum_after P N A' B d)
  unfolding sum_reply sum_w
  same_sum_left B d = (rw (l, f), rw (l, f, g))

  same_sum_right : (B : Table) (d : List ℕ) → (sum_reply P N B A d ≡ sum_reply P N B A' d) × (sum_after P N B A d ≡ sum_after P N B A' d)
  unfolding sum_reply sum_w
  same_sum_right B d = (rw (l, f), rw (l, f, g))

  same_product_left : (B : Table) (d : List ℕ) → (product_reply P N A B d ≡ product_reply P N A' B d) × (product_after P N A B d ≡ product_after P N A' B d)
  unfolding product_reply product_w
  same_product_left B d = (rw (l, f), rw (l, f, g))

  same_product_right : (B : Table) (d : List ℕ) → (product_reply P N B A d ≡ product_reply P N B A' d) × (product_after P N B A d ≡ product_after P N B A' d)
  unfolding product_reply product_w
  same_product_right B d = (rw (l, f), rw (l, f, g))

  same_solve : (x v d : List ℕ) → (solve_reply P N A x v d ≡ solve_reply P N A' x v d) × (solve_after P N A x v d ≡ solve_after P N A' x v d)
      × (work_after_of P N A x v d ≡ work_after_of P N A' x v d)
  unfolding solve_reply solve_w work_w first_zero_of pivot_w
  same_solve x v d = (rw (l, f, g), rw (l, f, g), rw (l, f, g))

  same_inverse : (d : List ℕ) → (inverse_reply P N A d ≡ inverse_reply P N A' d) × (inverse_after P N A d ≡ inverse_after P N A' d)
  unfolding inverse_reply inverse_w first_zero_of pivot_w
  same_inverse d = (rw (l, f, g), rw (l, f, g))

  same_write_reply : (d : List ℕ) → write_reply P N A d ≡ write_reply P N A' d
  unfolding write_reply
  same_write_reply d = rw (l, f)

  same_write : (d : List ℕ) → (write_reply P N A d ≡ write_reply P N A' d) × (write_after P N A d ≡ write_after P N A' d)
  unfolding write_w words_of_file
  same_write d = (
    same_write_reply d,
    ap₂ (λ (y : Reply) (ws : List ℕ). after y ws d) (same_write_reply d)
        (ap (λ (c : ℕ → Gens (residues P)). bytes_of (file_words_of P N A.lower A.upper c)) g),
  )

  uninfluenced : Uninfluenced P N A A'
  uninfluenced = record {
    matrix = m;
    entry = same_entry;
    whole = same_whole;
    apply = same_apply;
    transpose = same_transpose;
    multiple = same_multiple;
    sum_left = same_sum_left;
    sum_right = same_sum_right;
    product_left = same_product_left;
    product_right = same_product_right;
    solve = same_solve;
    inverse = same_inverse;
    write = same_write;
  }

pub unused_influence_nothing : UnusedInfluenceNothing
unused_influence_nothing = uninfluenced

module _ (P N : ℕ) (A : Table) (x x' : List ℕ) (e : SameColumn N x x') (l : short x N ≡ short x' N) where
  same_reply : (d : List ℕ) → apply_reply P N A x d ≡ apply_reply P N A x' d
  unfolding apply_reply
  same_reply d = rw (l, place_same P N x x' e)

  same_words : (apply_w P N A x ≡ apply_w P N A x') × (apply_transposed_w P N A x ≡ apply_transposed_w P N A x')
  unfolding apply_w apply_transposed_w
  same_words = (
    tabulate_same N _ _ (λ k h. ap (val P) (sends_same (residues P) N (matrix_of P N A) (matrix_of P N A) (column P x) (column P x') (λ i j hi hj. refl)
        (λ k h. ap (res P) (e k h)) k h)),
    tabulate_same N _ _ (λ k h. ap (val P) (sends_same (residues P) N (λ i j. matrix_of P N A j i) (λ i j. matrix_of P N A j i) (column P x) (column P x')
        (λ i j hi hj. refl) (λ k h. ap (res P) (e k h)) k h)),
  )

  solve_reply_same : (v d : List ℕ) → solve_reply P N A x v d ≡ solve_reply P N A x' v d
  unfolding solve_reply
  solve_reply_same v d = rw (l, place_same P N x x' e)

  -- by the one solution that there is
  solve_words_lem : (v d : List ℕ) → Accepted (solve_reply P N A x v d) → solve_w P N A x ≡ solve_w P N A x'
  unfolding solve_w
  solve_words_lem v d ok =
      let ok' : Accepted (solve_reply P N A x' v d) = ap (λ (y : Reply). y.number) (sym (solve_reply_same v d)) ∙ ok in
      tabulate_same N _ _ (λ k h. ap (val P) (sym (solved_column P N A x v d ok k h)
      ∙ sym ((algebra P N).solve_only A x v d ok (column P (solve_after P N A x' v d)) (λ k h. (algebra P N).solve A x' v d ok' k h
      ∙ sym (ap (res P) (e k h))) k h)
      ∙ solved_column P N A x' v d ok' k h))

  solve_after_same : (v d : List ℕ) → solve_after P N A x v d ≡ solve_after P N A x' v d
  solve_after_same v d = go (ℕ_discrete (solve_reply P N A x v d).number 0)
    where
      go : Dec ((solve_reply P N A x v d).number ≡ 0) → solve_after P N A x v d ≡ solve_after P N A x' v d
      go (yes ok) = ap₂ (λ (y : Reply) (w : List ℕ). after y w d) (solve_reply_same v d) (solve_words_lem v d ok)
      go (no n) = kept (solve_reply P N A x v d) (solve_w P N A x) d n
          ∙ sym (kept (solve_reply P N A x' v d) (solve_w P N A x') d (λ z. n (ap (λ (y : Reply). y.number) (solve_reply_same v d) ∙ z)))

  column_surplus : ColumnSurplus P N A x x'
  column_surplus = record {
    apply = λ d. (
      same_reply d,
      ap₂ (λ (y : Reply) (w : List ℕ). after y w d) (same_reply d) same_words.0,
      ap₂ (λ (y : Reply) (w : List ℕ). after y w d) (same_reply d) same_words.1,
    );
    solve = λ v d. (
      solve_reply_same v d,
      solve_after_same v d,
      ap (λ (y : Reply). after y (work_w P N A) v) (solve_reply_same v d),
    );
  }

pub surplus_influences_nothing : SurplusInfluencesNothing
surplus_influences_nothing = column_surplus

-- Files.
-- files alike in length, head, chain and used words are read alike
module _ (f f' : List ℕ) (long : length f ≡ length f') (head : (i : ℕ) → i < 4 → file_word f i ≡ file_word f' i) (chain : first_broken_of f ≡ first_broken_of f')
    (rows : (k : ℕ) (κ : Kind) (i j : ℕ) → Used (head_n f) (head_r f) (head_s f) k κ i j → file_row_word f k κ i j ≡ file_row_word f' k κ i j) where
  h_p : head_p f ≡ head_p f'
  h_p = ap (prime_of house_prime) (head 0 (omega arith))

  h_n : head_n f ≡ head_n f'
  h_n = head 1 (omega arith)

  h_r : head_r f ≡ head_r f'
  h_r = head 2 (omega arith)

  h_s : head_s f ≡ head_s f'
  h_s = head 3 (omega arith)

  bad_in_file : first_bad_in_file f ≡ first_bad_in_file f'
  unfolding first_bad_in_file
  bad_in_file = same_first (head_n f) _ (λ k. bad_row_of (head_p f) (head_n f) (head_r f) (head_s f) k (file_row_word f' k)) 0
      (λ k a b. bad_same (head_p f) (head_n f) (head_r f) (head_s f) k (omega arith) (file_row_word f k) (file_row_word f' k) (rows k))
      ∙ ap₂ (λ (p n : ℕ). first_of n (λ k. bad_row_of p n (head_r f) (head_s f) k (file_row_word f' k)) 0) h_p h_n
      ∙ ap₂ (λ (r s : ℕ). first_of (head_n f') (λ k. bad_row_of (head_p f') (head_n f') r s k (file_row_word f' k)) 0) h_r h_s

  words_same : read_w f ≡ read_w f'
  unfolding read_w file_gens
  words_same = ap (table_words (head_p f) (head_n f) (head_r f) (head_s f))
      (fun_ext (λ k. row_same (head_p f) (head_n f) (head_r f) (head_s f) k (file_row_word f k) (file_row_word f' k) (λ κ i j u. ap (res (head_p f)) (rows k κ i j u))))
      ∙ ap₂ (λ (p n : ℕ). table_words p n (head_r f) (head_s f) (λ k. row_gens p n (head_r f) (head_s f) k (file_row_word f' k))) h_p h_n
      ∙ ap₂ (λ (r s : ℕ). table_words (head_p f') (head_n f') r s (λ k. row_gens (head_p f') (head_n f') r s k (file_row_word f' k))) h_r h_s

  read_reply_same : (d : List ℕ) → read_reply f d ≡ read_reply f' d
  unfolding read_reply
  read_reply_same d = rw (chain, bad_in_file, long, h_p, h_n, h_r, h_s)

  read_same_file : (d : List ℕ) → (read_reply f d ≡ read_reply f' d) × (read_after f d ≡ read_after f' d)
  read_same_file d = (read_reply_same d, ap₂ (λ (y : Reply) (w : List ℕ). after y w d) (read_reply_same d) words_same)

chain_same : (f f' : List ℕ) → SameFile f f' → first_broken_of f ≡ first_broken_of f'
unfolding first_broken_of broken
chain_same f f' e = same_first (suc (head_n f)) (broken f) (broken f') 0 (λ k a b. broken_same k (omega arith))
    ∙ ap (λ (n : ℕ). first_of (suc n) (broken f') 0) (e.head 1 (omega arith))
  where
    broken_same : (k : ℕ) → k ≤ head_n f → broken f k ≡ broken f' k
    broken_same k h = rw (e.head 1 (omega arith), e.chain k h)

pub file_unused_influence_nothing : FileUnusedInfluenceNothing
file_unused_influence_nothing f f' d e = read_same_file f f' e.long e.head (chain_same f f' e) e.rows d

-- where the chain of one is right, so is that of the other, through the same rows
module _ (π : ℕ → ℕ) (f f' : List ℕ) (e : Permuted π f f') (right : first_broken_of f ≡ 0) where
  met_permuted : (k : ℕ) → k ≤ head_n f → met f' k ≡ π (met f k)
  unfolding met
  met_permuted zero h = e.first
  met_permuted (suc k) h = let z = right_met f right k h in ap (λ (m : ℕ). file_word f' (record_at_of f' m)) (met_permuted k (omega arith))
      ∙ e.next (met f k) z.0 z.1

  right_permuted : first_broken_of f' ≡ 0
  right_permuted = is_right f' inside (ap (met f') (e.head 1 (omega arith)) ∙ met_permuted (head_n f) (omega arith) ∙ ap π (right_end f right) ∙ e.end)
    where
      inside : (k : ℕ) → k < head_n f' → (1 ≤ met f' k) × (met f' k ≤ head_n f')
      inside k h =
          let n = e.head 1 (omega arith) in
          let z = right_met f right k (omega arith) in
          let w = e.place (met f k) z.0 z.1 in
          let q = met_permuted k (omega arith) in
          (omega arith, omega arith)

  rows_permuted : (k : ℕ) (κ : Kind) (i j : ℕ) → Used (head_n f) (head_r f) (head_s f) k κ i j → file_row_word f k κ i j ≡ file_row_word f' k κ i j
  rows_permuted k κ i j u =
      let z = right_met f right k u.0 in
      sym (ap₂ (λ (r s : ℕ). file_word f' (record_at_of f' (met f' k) + (1 + place r s κ i j))) (e.head 2 (omega arith)) (e.head 3 (omega arith))
      ∙ ap (λ (m : ℕ). file_word f' (record_at_of f' m + (1 + place (head_r f) (head_s f) κ i j))) (met_permuted k (omega (arith, u.0)))
      ∙ e.rows (met f k) (place (head_r f) (head_s f) κ i j) z.0 z.1 (place_lt (head_r f) (head_s f) κ i j (room (head_n f) (head_r f) (head_s f) k κ i j u)))

pub permuted_reads_same : PermutedReadsSame
permuted_reads_same π f f' d e ok =
    let right = read_chain f d ok in
    let z = read_same_file f f' (sym e.long) (λ i h. sym (e.head i h)) (right ∙ sym (right_permuted π f f' e right)) (rows_permuted π f f' e right) d in
    (sym z.0, sym z.1)

pub first : First
first = record {
  lengths = lengths;
  causes = causes;
  accepts = accepts;
  order = order;
  refused = refused;
  untouched = untouched;
  values =
      values;
  replies = replies;
}

pub second : Second
second = record {
  agrees = agrees;
  idle = idle_unused;
  unused = unused_influence_nothing;
  surplus = surplus_influences_nothing;
  again = written_again;
  writes = writes_file;
  reads_back = λ P N A f d ok. reads_back P N A f ok d;
  reads_file = reads_file;
  file_unused = file_unused_influence_nothing;
  permuted = permuted_reads_same;
}

pub third : Third
third = algebra
