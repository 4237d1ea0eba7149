-- What the square, the private column and the result hold on the way.
use mathlib.Core.List.{List, ◌++◌}
use Rattle.std.specs.Prelude.{◌≡◌, ℕ, ◌+◌, ◌-◌, ◌*◌, ◌<◌, ◌≤◌}
use Rattle.std.proofs.Common.{sym, ap₂, ◌∙◌, drop_at}
use Rattle.std.proofs.Math.Path.{ap}
use Rattle.std.proofs.Math.Nat.{mul-le-mul_right}
use native.Mathlib.Omega.{arith}
use Rattle.std.proofs.Math.ListN.{length, get_or, drop}
use borrow.Rule.Slice.PartMut.{mid_of, put_mid, mid_len, Post-is, same_len_mid}
use Rattle.field.specs.Residue.{residues, val, val_small}
use Rattle.lists.specs.Lists.{tabulate}
use Rattle.lists.specs.ListLaws.{length_tabulate, length_rows, get_d_tabulate, get_d_here, get_d_rows_more, tabulate_same}
use Rattle.table.specs.Words.{Table, matrix_of}
use Rattle.table.specs.Results.{column, matrix_w}
use Rattle.check_numbers.specs.Passed.{Good}
use Rattle.table.proofs.CallLaws.{written_length}
use Rattle.algebra_elimination.specs.Elimination.{solution}
use Rattle.row_dense.specs.DenseRows.{Square, Beside}
use Rattle.row_dense.specs.RowLaws.{under}
use Rattle.sweep_dense.specs.Progress.{Holds, HoldsColumn}
use Rattle.lists.specs.Parts.{part_word, lent_again}
use Rattle.table_dense.specs.DenseCall.{dense_w}

-- the right-hand side b, of n words below P, and a square v with room for the table's matrix
pub record Given (P n : ℕ) (A : Table) (b v : List ℕ) : Type 0 where
  pub pos : 0 < P
  pub good : Good P n A
  pub long_column : n ≤ length b
  pub below : (k : ℕ) → k < n → get_or b k 0 < P
  pub room_square : n * n ≤ length v

module _ {P n : ℕ} {A : Table} {b v : List ℕ} (g : Given P n A b v) where
  -- sq is the square with the matrix written to it
  module _ {sq : List ℕ} (e : sq ≡ matrix_w P n A ++ drop (n * n) v) where
    abbrev lent : List ℕ
    lent = mid_of 0 (n * n - 0) sq

    matrix_length : length (matrix_w P n A) ≡ n * n
    unfolding matrix_w
    matrix_length = length_rows _ n (λ k. length_tabulate n _) n

    long : length sq ≡ length v
    long = written_length (matrix_w P n A) v sq (n * n) matrix_length g.room_square e

    square_long : length lent ≡ n * n
    square_long = mid_len 0 (n * n) sq (omega (arith, long, g.room_square)) ∙ omega arith

    pub square_holds : Holds P n lent (matrix_of P n A)
    unfolding matrix_w
    square_holds i j hi hj =
        let p = mul-le-mul_right n hi in
        let z : 0 + (i * n + j) ≡ i * n + j = omega arith in
        part_word 0 (n * n - 0) sq (i * n + j) (omega arith) ∙ ap (λ (m : ℕ). get_or sq m 0) z ∙ ap (λ (l : List ℕ). get_or l (i * n + j) 0) e
        ∙ get_d_rows_more (λ i. tabulate n (λ j. val P (matrix_of P n A i j))) n (λ k. length_tabulate n _) n i j (drop (n * n) v) hi hj
        ∙ get_d_tabulate n (λ j. val P (matrix_of P n A i j)) j hj

    pub square_good : Square P n lent
    square_good = record { long = square_long; below = λ i j hi hj. under P g.pos (matrix_of P n A i j) (square_holds i j hi hj) }

    -- the square cleared
    pub square_leaves : {y : List ℕ} → y ≡ tabulate (length lent) (λ e. 0) → put_mid 0 (n * n - 0) sq y ≡ tabulate (n * n) (λ e. 0) ++ drop (n * n) v
    square_leaves q =
        ap₂ ◌++◌ (q ∙ ap (λ (m : ℕ). tabulate m (λ e. 0)) square_long)
        (Post-is 0 (n * n) sq (omega arith) ∙ ap (drop (n * n)) e ∙ drop_at (matrix_w P n A) (drop (n * n) v) (n * n) matrix_length)

  -- the first n words of t, lent
  abbrev first : List ℕ → List ℕ
  first t = mid_of 0 (n - 0) t

  first_long : (t : List ℕ) → n ≤ length t → length (first t) ≡ n
  first_long t room = mid_len 0 n t room ∙ omega arith

  first_word : (t : List ℕ) (k : ℕ) → k < n → get_or (first t) k 0 ≡ get_or t k 0
  first_word t k h = let z : 0 + k ≡ k = omega arith in part_word 0 (n - 0) t k (omega arith) ∙ ap (λ (m : ℕ). get_or t m 0) z

  -- x is the private column with b copied to it
  module _ (x rest : List ℕ) (e : x ≡ tabulate (length (first b)) (λ j. get_or (first b) j 0) ++ rest) where
    copied : (k : ℕ) → k < n → get_or x k 0 ≡ get_or b k 0
    copied k h =
        ap (λ (y : List ℕ). get_or y k 0) e ∙ get_d_here (length (first b)) _ rest k (omega (arith, first_long b g.long_column)) ∙ first_word b k h

    pub column_holds : HoldsColumn P n (first x) (column P b)
    column_holds k h = first_word x k h ∙ copied k h ∙ sym (val_small P g.pos (get_or b k 0) (g.below k h))

    pub column_good : n ≤ length x → Beside P n (first x)
    column_good room = record {
      long = first_long x room;
      below = λ k h. omega (arith, first_word x k h, copied k h, g.below k h);
    }

  -- y has come back to the first words of the private column x
  module _ (x y : List ℕ) (room : n ≤ length x) (same : length y ≡ length (first x)) where
    abbrev back : List ℕ
    back = put_mid 0 (n - 0) x y

    pub back_room : n ≤ length back
    back_room = omega (arith, same_len_mid {X = ℕ} 0 (n - 0) x y same)

    -- it is the solution, and it is copied to the result
    pub result_leaves : (d : List ℕ) {out : List ℕ} → HoldsColumn P n y (solution (residues P) n (matrix_of P n A) (column P b))
        → out ≡ tabulate (length (first back)) (λ j. get_or (first back) j 0) ++ drop (length (first back)) d → out ≡ dense_w P n A b ++ drop n d
    unfolding dense_w
    result_leaves d h e =
        let l : length y ≡ n = same ∙ first_long x room in
        e ∙ ap (λ (s : List ℕ). tabulate (length s) (λ j. get_or s j 0) ++ drop (length s) d) (lent_again (n - 0) x y (l ∙ omega arith))
        ∙ ap (λ (m : ℕ). tabulate m (λ j. get_or y j 0) ++ drop m d) l
        ∙ ap (λ (z : List ℕ). z ++ drop n d) (tabulate_same n _ _ h)
