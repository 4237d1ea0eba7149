-- The rows of the matrix: what their walks leave.
use Rattle.std.specs.Prelude.{◌≡◌, List, ◌++◌, ℕ, ◌+◌, ◌-◌, ◌*◌, ◌<◌, length, drop, set}
use Rattle.std.proofs.Math.Path.{refl}
use Rattle.std.proofs.Common.{ap, ◌∙◌, append-nil, arith}
use Rattle.std.proofs.Math.Seq.{drop-length}
use Rattle.field.specs.Residue.{val}
use Rattle.lists.specs.Lists.{tabulate, rows_of, put_at}
use Rattle.lists.specs.ListLaws.{length_tabulate, length_rows}
use Rattle.lists.specs.Writing.{put_more, length_put, put_same}
use Rattle.table.specs.Words.{table, width, matrix_of}
use Rattle.table.specs.Replies.{Accepted}
use Rattle.table.specs.Results.{matrix_w}
use Rattle.table.specs.Calls.{matrix_reply, matrix_after}
use Rattle.table.proofs.CallLaws.{accepted_leaves}
use Rattle.row_halves.specs.declared.Half.{Half}
use Rattle.row_halves.specs.Halves.{lower_half, upper_half, transposed_half}
use Rattle.row_words.specs.PutLaws.{put_add}
use Rattle.sweep_apply.proofs.Link.{row_before_is, row_after_is}
use Rattle.sweep_entry.specs.Walk.{below_word, above_word}

-- word j of row i
abbrev pub row_word : (P N r s : ℕ) (t : List ℕ) (i j : ℕ) → ℕ
row_word P N r s t i j = val P (matrix_of P N (table r s t) i j)

put_all : (n : ℕ) (f : ℕ → ℕ) (d : List ℕ) → length d ≡ n → put_at 0 n f d ≡ tabulate n f
unfolding put_at
put_all n f d l = let z : 0 + n ≡ length d = omega arith in rw (z, drop-length d) (append-nil (tabulate n f))

-- A buffer of n words, with the words before i written, then word i, then those after it, holds them all.
module _ (n i : ℕ) (f : ℕ → ℕ) (d a : List ℕ) (l : length d ≡ n) (h : i < n) (e : a ≡ put_at 0 i f d) where
  pub before_length : length a ≡ n
  before_length = ap length e ∙ length_put 0 i f d (omega arith) ∙ l

  pub all_written : (v : ℕ) (b : List ℕ) → v ≡ f i → b ≡ put_at (i + 1) (n - (i + 1)) (λ e. f (i + 1 + e)) (set a i v) → b ≡ tabulate n f
  all_written v b q y =
      let z : i ≡ 0 + i = omega arith in
      let u : i + 1 ≡ 0 + (i + 1) = omega arith in
      let m : i + 1 + (n - (i + 1)) ≡ n = omega arith in
      put_add 0 (i + 1) (n - (i + 1)) f (λ e. f (i + 1 + e)) d (omega arith)
      (ap (λ (j : ℕ). set a j v) z ∙ put_more 0 i f a d v e q (omega arith))
      (y ∙ ap (λ (j : ℕ). put_at j (n - (i + 1)) (λ e. f (i + 1 + e)) (set a i v)) u) (λ j h. refl)
      ∙ ap (λ (j : ℕ). put_at 0 j f d) m ∙ put_all n f d l

-- What the walks leave, by the width and the half that code holds.
module _ (P N r s : ℕ) (t : List ℕ) (w : ℕ) (ew : w ≡ width r s) (i : ℕ) (lt : i < N) (h : Half) (d out : List ℕ) where
  pub before_leaves : h ≡ transposed_half (lower_half r) → out ≡ put_at 0 i (λ j. above_word P N w t h j i) d → out ≡ put_at 0 i (row_word P N r s t i) d
  before_leaves eh e = (rw (ew, eh) at e) ∙ put_same 0 i _ _ d (λ j l. ap (val P) (row_before_is P r s t N i j l lt))

  pub after_leaves : h ≡ transposed_half (upper_half r s) → out ≡ put_at (i + 1) (N - (i + 1)) (λ e. below_word P N w t h (i + 1 + e) i) d
      → out ≡ put_at (i + 1) (N - (i + 1)) (λ e. row_word P N r s t i (i + 1 + e)) d
  after_leaves eh e = (rw (ew, eh) at e) ∙ put_same (i + 1) (N - (i + 1)) _ _ d
      (λ j l. ap (val P) (row_after_is P r s t N i (i + 1 + j) (omega arith) (omega arith)))

-- The rows make up the matrix.
module _ (P N r s : ℕ) (t : List ℕ) where
  abbrev pub row_of : ℕ → List ℕ
  row_of i = tabulate N (row_word P N r s t i)

  pub all_rows : rows_of N row_of ≡ matrix_w P N (table r s t)
  unfolding matrix_w
  all_rows = refl

  matrix_length : length (matrix_w P N (table r s t)) ≡ N * N
  unfolding matrix_w
  matrix_length = length_rows row_of N (λ k. length_tabulate N _) N

  pub matrix_leaves : (m : ℕ) (d out : List ℕ) → m ≡ P → Accepted (matrix_reply P N (table r s t) d) → out ≡ matrix_w m N (table r s t) ++ drop (N * N) d
      → out ≡ matrix_after P N (table r s t) d
  matrix_leaves m d out em ok e = accepted_leaves (matrix_reply P N (table r s t) d) (matrix_w P N (table r s t)) d out (N * N) ok matrix_length (rw em at e)
