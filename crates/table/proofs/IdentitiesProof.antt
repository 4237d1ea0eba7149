-- The identities proved: from what the calls accept, from the undertakings, and from the laws of matrices and pivots.
use Rattle.std.specs.Prelude.{false, ◌↔◌, ◌≡◌, refl, List, ℕ, ◌+◌, ◌*◌, ◌<◌, ◌≤◌, length, get_or}
use Rattle.std.proofs.Math.Path.{sym}
use Rattle.std.proofs.Common.{◌∙◌, ap, arith, ltb-false}
use Rattle.algebra.specs.Ring.{Ring}
use Rattle.algebra.specs.Matrix.{Matrix, Same, sends, times_m, identity, LeastSingular}
use Rattle.algebra.specs.MatrixLaws.{times_same, sends_times, sends_same, one_inverse, product_inverse, transpose_times, least_same}
use Rattle.algebra.specs.Generators.{Gens, entry_of, transpose_g}
use Rattle.algebra.proofs.TransposeTable.{transpose_matrix}
use Rattle.algebra.proofs.SingularCorner.{transpose_least}
use Rattle.field.specs.Prime.{Prime}
use Rattle.field.specs.Residue.{residues, val, val_small, prime_pos, field}
use Rattle.table.specs.Words.{Table, gap, width, gens, matrix_of, SameColumn}
use Rattle.table.proofs.WordLaws.{width_swap, words_below, place_below}
use Rattle.table.specs.Results.{column, first_zero_of}
use Rattle.table.specs.Replies.{short}
use Rattle.table.specs.Calls.{table_length, transpose_after, solve_after, transpose_t, inverse_t, product_t}
use Rattle.table.specs.Undertakings.{Algebra, GoodNumbers, GoodOrders, GoodTable, GoodPair, NoneSingular, Readable, Alike, ProductAccepts}
use Rattle.table.proofs.SingularRow.{regular_none, none_regular, same_first_zero}
use Rattle.table.proofs.AcceptsProof.{accepts, numbers, good}
use Rattle.table.proofs.AlgebraProof.{algebra, at_pivot, solve_open, inverse_open}
use Rattle.table.proofs.UndertakingsProof.{lengths, agrees, written_again}
use Rattle.table.specs.Identities.{TransposeAccepts, InverseAccepts, SolveAccepts, HasRoom, Identities}

module _ (P N : ℕ) where
  abbrev K : Ring
  K = residues P

  abbrev laws : Algebra P N
  laws = algebra P N

  -- A call keeps the length of its result: there is room before exactly where there is room afterwards.
  kept : {n l m : ℕ} → m ≡ l → (n ≤ l) ↔ (n ≤ m)
  kept e = ((λ h. omega arith), λ h. omega arith)

  -- What an accepted call leaves is a good table.
  left_good : (T : Table) → GoodOrders T.lower T.upper → table_length N T ≤ length T.words → Readable P N T → GoodTable P N T
  left_good T orders room again = (orders, room, (words_below P N T).0 again.1)

  product_good : (A B : Table) (c : List ℕ) → ProductAccepts P N A B c → GoodTable P N (product_t P N A B c)
  product_good A B c ok =
      let g = ((accepts P N A).product B c).0 ok in
      left_good (product_t P N A B c) g.3 ((kept ((lengths P N A).product B c)).0 g.4) ((written_again P N A).product B c ok)

  inverse_good : (A : Table) (d : List ℕ) → InverseAccepts P N A d → GoodTable P N (inverse_t P N A d)
  inverse_good A d ok =
      let g = ((accepts P N A).inverse d).0 ok in
      left_good (inverse_t P N A d) g.1.0 ((kept ((lengths P N A).inverse d)).0 g.2) ((written_again P N A).inverse d ok)

  transpose_room : (A : Table) (d : List ℕ) → HasRoom N d A ↔ (table_length N (transpose_t P N A d) ≤ length (transpose_after P N A d))
  transpose_room A d = rw (width_swap A.lower A.upper) (kept ((lengths P N A).transpose d))

  transpose_good : (A : Table) (d : List ℕ) → TransposeAccepts P N A d → GoodTable P N (transpose_t P N A d)
  transpose_good A d ok =
      let g = ((accepts P N A).transpose d).0 ok in
      left_good (transpose_t P N A d) (g.1.0.1, g.1.0.0) ((transpose_room A d).0 g.2) ((written_again P N A).transpose d ok)

  -- The product of two good tables is accepted where the table left in c is good.
  product_accepted : (A B : Table) (c : List ℕ) → GoodNumbers P N → GoodTable P N A → GoodTable P N B → GoodTable P N (product_t P N A B c)
      → ProductAccepts P N A B c
  product_accepted A B c n a b ab = ((accepts P N A).product B c).1 (n, a, b, ab.0, (kept ((lengths P N A).product B c)).1 ab.1)

  -- Added orders are the same in the other order of the tables.
  other_order : (r s r' s' : ℕ) (g : List ℕ) → GoodOrders (r + r') (s + s') → N * width (r + r') (s + s') ≤ length g
      → GoodOrders (r' + r) (s' + s) × (N * width (r' + r) (s' + s) ≤ length g)
  other_order r s r' s' g orders room =
      let e : r' + r ≡ r + r' = omega arith in
      let f : s' + s ≡ s + s' = omega arith in
      rw (e, f) (orders, room)

  -- A times B, left in c
  module _ (A B : Table) (c : List ℕ) where
    abbrev AB : Table
    AB = product_t P N A B c

    module _ (d e f g : List ℕ) (ok_AB : InverseAccepts P N AB d) (ok_A : InverseAccepts P N A e) (ok_B : InverseAccepts P N B f)
        (room : HasRoom N g AB) where
      abbrev A⁻¹ : Table
      A⁻¹ = inverse_t P N A e

      abbrev B⁻¹ : Table
      B⁻¹ = inverse_t P N B f

      product_ok : ProductAccepts P N A B c
      product_ok =
          let a = ((accepts P N A).inverse e).0 ok_A in
          product_accepted A B c a.0 a.1 (((accepts P N B).inverse f).0 ok_B).1 (((accepts P N AB).inverse d).0 ok_AB).1

      inverses_ok : ProductAccepts P N B⁻¹ A⁻¹ g
      inverses_ok =
          let z = ((accepts P N AB).inverse d).0 ok_AB in
          let o = other_order A.lower A.upper B.lower B.upper g z.1.0 room in
          ((accepts P N B⁻¹).product A⁻¹ g).1 (z.0, inverse_good B f ok_B, inverse_good A e ok_A, o.0, o.1)

      -- the inverse of A B is a left inverse of it, B⁻¹ A⁻¹ a right one
      inverses_alike : Alike P N (inverse_t P N AB d) (product_t P N B⁻¹ A⁻¹ g)
      inverses_alike i j hi hj =
          one_inverse K N (matrix_of P N (inverse_t P N AB d)) (matrix_of P N AB) R (laws.inverse_left AB d ok_AB) right i j hi hj
          ∙ sym (laws.product B⁻¹ A⁻¹ g inverses_ok i j hi hj)
        where
          R : Matrix K
          R = times_m K N (matrix_of P N B⁻¹) (matrix_of P N A⁻¹)

          right : Same K N (times_m K N (matrix_of P N AB) R) (identity K)
          right i j hi hj =
              times_same K N (matrix_of P N AB) _ R R (laws.product A B c product_ok) (λ i j hi hj. refl) i j hi hj
              ∙ product_inverse K N _ _ _ _ (laws.inverse_right A e ok_A) (laws.inverse_right B f ok_B) i j hi hj

      inverse_of_product' : ProductAccepts P N A B c × ProductAccepts P N B⁻¹ A⁻¹ g × Alike P N (inverse_t P N AB d) (product_t P N B⁻¹ A⁻¹ g)
      inverse_of_product' = (product_ok, inverses_ok, inverses_alike)

    module _ (d e f g : List ℕ) (ok : ProductAccepts P N A B c)
        (room_d : HasRoom N d AB) (room_e : HasRoom N e A) (room_f : HasRoom N f B) (room_g : HasRoom N g AB) where
      abbrev Aᵀ : Table
      Aᵀ = transpose_t P N A e

      abbrev Bᵀ : Table
      Bᵀ = transpose_t P N B f

      asked : GoodPair P N A B c
      asked = ((accepts P N A).product B c).0 ok

      transpose_AB : TransposeAccepts P N AB d
      transpose_AB = ((accepts P N AB).transpose d).1 (asked.0, product_good A B c ok, room_d)

      transpose_A : TransposeAccepts P N A e
      transpose_A = ((accepts P N A).transpose e).1 (asked.0, asked.1, room_e)

      transpose_B : TransposeAccepts P N B f
      transpose_B = ((accepts P N B).transpose f).1 (asked.0, asked.2, room_f)

      transposes_ok : ProductAccepts P N Bᵀ Aᵀ g
      transposes_ok =
          let o = other_order A.upper A.lower B.upper B.lower g (asked.3.1, asked.3.0)
          (rw (width_swap (A.lower + B.lower) (A.upper + B.upper)) room_g) in
          ((accepts P N Bᵀ).product Aᵀ g).1 (asked.0, transpose_good B f transpose_B, transpose_good A e transpose_A, o.0, o.1)

      transposes_alike : Alike P N (transpose_t P N AB d) (product_t P N Bᵀ Aᵀ g)
      transposes_alike i j hi hj =
          (agrees P N AB).transpose d transpose_AB i j hi hj
          ∙ laws.product A B c ok j i hj hi
          ∙ transpose_times K N (matrix_of P N A) (matrix_of P N B) i j
          ∙ sym (times_same K N _ _ _ _ ((agrees P N B).transpose f transpose_B) ((agrees P N A).transpose e transpose_A) i j hi hj)
          ∙ sym (laws.product Bᵀ Aᵀ g transposes_ok i j hi hj)

      transpose_of_product' : TransposeAccepts P N AB d × TransposeAccepts P N A e × TransposeAccepts P N B f × ProductAccepts P N Bᵀ Aᵀ g
          × Alike P N (transpose_t P N AB d) (product_t P N Bᵀ Aᵀ g)
      transpose_of_product' = (transpose_AB, transpose_A, transpose_B, transposes_ok, transposes_alike)

    -- Solving for x with A gives y, with B for y gives z, with A B gives w.
    module _ (x v d v' d' v'' d'' : List ℕ) (ok_AB : SolveAccepts P N AB x v d) (ok_A : SolveAccepts P N A x v' d')
        (ok_B : SolveAccepts P N B (solve_after P N A x v' d') v'' d'') where
      abbrev y : List ℕ
      y = solve_after P N A x v' d'

      abbrev z : List ℕ
      z = solve_after P N B y v'' d''

      factors_ok : ProductAccepts P N A B c
      factors_ok =
          let a = ((accepts P N A).solve x v' d').0 ok_A in
          product_accepted A B c a.0 a.1 (((accepts P N B).solve y v'' d'').0 ok_B).1 (((accepts P N AB).solve x v d).0 ok_AB).1

      -- A B sends z to x, and no column but w is sent there
      sent : (k : ℕ) → k < N → sends K N (matrix_of P N AB) (column P z) k ≡ column P x k
      sent k h =
          sends_same K N (matrix_of P N AB) _ (column P z) (column P z) (laws.product A B c factors_ok) (λ k h. refl) k h
          ∙ sends_times K N (matrix_of P N A) (matrix_of P N B) (column P z) k
          ∙ sends_same K N (matrix_of P N A) (matrix_of P N A) _ _ (λ i j hi hj. refl) (laws.solve B y v'' d'' ok_B) k h
          ∙ laws.solve A x v' d' ok_A k h

      columns_same : SameColumn N (solve_after P N AB x v d) z
      columns_same k h =
          sym (word AB x v d ok_AB k h)
          ∙ ap (val P) (sym (laws.solve_only AB x v d ok_AB (column P z) sent k h))
          ∙ word B y v'' d'' ok_B k h
        where
          -- a word of an accepted solve is that of its residue
          word : (A : Table) (x v d : List ℕ) → SolveAccepts P N A x v d → (k : ℕ) → k < N
              → val P (column P (solve_after P N A x v d) k) ≡ get_or (solve_after P N A x v d) k 0
          word A x v d ok k h =
              val_small P (prime_pos P (((accepts P N A).solve x v d).0 ok).0.0) _ (place_below P N _ ((written_again P N A).solve x v d ok) k h)

      solve_through' : ProductAccepts P N A B c × SameColumn N (solve_after P N AB x v d) z
      solve_through' = (factors_ok, columns_same)

  -- the inverse's inverse is a left inverse of A⁻¹, A is a right one
  original_back : (A : Table) (d e : List ℕ) → InverseAccepts P N A d → InverseAccepts P N (inverse_t P N A d) e
      → Alike P N (inverse_t P N (inverse_t P N A d) e) A
  original_back A d e ok ok' =
      let A⁻¹ = inverse_t P N A d in
      one_inverse K N _ (matrix_of P N A⁻¹) _ (laws.inverse_left A⁻¹ e ok') (laws.inverse_left A d ok)

  -- The transposed table T, left in d: it stands for the matrix of A's generators, transposed row by row.
  module _ (A : Table) (d : List ℕ) (ok : TransposeAccepts P N A d) where
    abbrev T : Table
    T = transpose_t P N A d

    abbrev r : ℕ → ℕ
    r = gap N A.lower

    abbrev s : ℕ → ℕ
    s = gap N A.upper

    abbrev c : ℕ → Gens K
    c = gens P N A

    prime : Prime P
    prime = (((accepts P N A).transpose d).0 ok).0.0

    stands : Same K N (entry_of s r (λ k. transpose_g (c k))) (matrix_of P N T)
    unfolding matrix_of
    stands i j hi hj = transpose_matrix r s c i j ∙ sym ((agrees P N A).transpose d ok i j hi hj)

    same_corners : (k : ℕ) → LeastSingular K N (matrix_of P N T) k ↔ LeastSingular K N (matrix_of P N A) k
    unfolding matrix_of
    same_corners k = (
      (λ z. (transpose_least (field P prime) r s c N k).1 (least_same K N (matrix_of P N T) _ (λ i j hi hj. sym (stands i j hi hj)) k z)),
      (λ z. least_same K N _ (matrix_of P N T) stands k ((transpose_least (field P prime) r s c N k).0 z)),
    )

    same_row : first_zero_of P N T ≡ first_zero_of P N A
    same_row = same_first_zero P N T A prime same_corners

    same_regular : NoneSingular P N T ↔ NoneSingular P N A
    same_regular = (
      (λ z. regular_none P N A prime (sym same_row ∙ none_regular P N T prime z)),
      (λ z. regular_none P N T prime (same_row ∙ none_regular P N A prime z)),
    )

  -- Where A is good and its transpose is long enough, the transpose was accepted; then the pivots' check answers the same of both.
  transpose_left : (A : Table) (d : List ℕ) → GoodNumbers P N → GoodTable P N A → short (transpose_after P N A d) (table_length N (transpose_t P N A d)) ≡ false
      → TransposeAccepts P N A d
  transpose_left A d n a long = ((accepts P N A).transpose d).1 (n, a, (transpose_room A d).1 (ltb-false _ _ long))

  pub identities : Identities P N
  identities = record {
    inverse_of_product_lem = inverse_of_product';
    inverse_of_inverse_lem = original_back;
    transpose_of_product_lem = transpose_of_product';
    transpose_regular = same_regular;
    transpose_first_zero_lem = same_row;
    transpose_solve = λ A d x v e x' v' e' z z'.
        let ok = transpose_left A d (numbers P N (z 0) (z 1)) (good P N A (z 2) (z 3) (z 7)) (z' 3) in
        (ok, solve_open P N (transpose_t P N A d) x' v' e' z' ∙ ap at_pivot (same_row A d ok) ∙ sym (solve_open P N A x v e z));
    transpose_inverse = λ A d e e' z z'.
        let ok = transpose_left A d (numbers P N (z 0) (z 1)) (good P N A (z 2) (z 3) (z 5)) (z' 3) in
        (ok, inverse_open P N (transpose_t P N A d) e' z' ∙ ap at_pivot (same_row A d ok) ∙ sym (inverse_open P N A e z));
    solve_through_lem = solve_through';
  }
