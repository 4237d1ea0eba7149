-- Undertaking 3: the proofs.
use Rattle.std.specs.Prelude.{Bool, true, false, ◌↔◌, ◌≡◌, ltb}
use Rattle.std.proofs.Math.Path.{refl, sym, ap, ap₂, fun_ext}
use Rattle.std.proofs.Common.{◌∙◌, arith, lt-ltb}
use mathlib.Core.List.{List, [], ◌∷◌, ◌++◌}
use Prim.Native.Nat.{ℕ, zero, suc, ◌+◌, ◌<◌, ◌≤◌}
use Rattle.std.proofs.Math.ListN.{get_or}
use Rattle.algebra.specs.Matrix.{Matrix, Same, sends, plus_m, times_m, identity, Singular, LeastSingular}
use Rattle.algebra.specs.Generators.{pick, entry_of, inverses_g, solved_g, products_g, sums_g}
use Rattle.algebra.proofs.InverseTable.{table_inverse, inverse_table, one_to_one}
use Rattle.algebra.proofs.SolveTable.{solution}
use Rattle.algebra.proofs.ProductTable.{product_matrix}
use Rattle.algebra.proofs.SumTable.{sum_matrix}
use Rattle.algebra.specs.MatrixLaws.{times_assoc, times_plus_lem, plus_times, times_same, sends_times, sends_same}
use Rattle.field.specs.Prime.{Prime}
use Rattle.field.specs.Residue.{residues, res, val, res_val, val_small, prime_pos, field}
use Rattle.table.specs.Limits.{standard}
use Rattle.lists.specs.ListLaws.{get_d_here}
use Rattle.table.specs.Words.{Table, table, with_words, outer, gap, gens, matrix_of, SameColumn}
use Rattle.table.proofs.WordLaws.{written}
use Rattle.table.specs.Results.{column, apply_w, sum_w, product_w, inverse_w, solve_w, first_zero_of}
use Rattle.table.specs.Replies.{Reply, Accepted, accept, refuse, answer, NoFault}
use Rattle.table.specs.Calls.{check_pivots, apply_reply, apply_after, sum_reply, product_reply, solve_reply, solve_after, inverse_reply, solve_earlier}
use Rattle.table.specs.Calls.{inverse_earlier, inverse_t, sum_t, product_t}
use Rattle.table.proofs.CallLaws.{open_checks, answer_append, good_prime, after_is}
use Rattle.table.proofs.AcceptsProof.{accepts}
use Rattle.table.proofs.SingularRow.{least_singular, singular_first, regular, regular_none, none_regular}
use Rattle.table.specs.Groupings.{Grouping, factor, cut, first_factor, other_factors, grouped, AllAccept}
use Rattle.table.specs.Undertakings.{Algebra}

gap_plus : (N r s : ℕ) → (λ (k : ℕ). gap N r k + gap N s k) ≡ gap N (r + s)
gap_plus N r s = fun_ext (λ k. go (outer N k))
  where
    go : (b : Bool) → pick b 0 r + pick b 0 s ≡ pick b 0 (r + s)
    go true = refl
    go false = refl

-- what the pivots' check answers, where no earlier one holds: m is the row of the first zero pivot, or 0
abbrev pub at_pivot : ℕ → Reply
at_pivot m = pick (ltb 0 m) (refuse 7 1 m) (accept 0)

module _ (P N : ℕ) where
  pub sum_stands : (A B : Table) (d : List ℕ) → Accepted (sum_reply P N A B d)
      → Same (residues P) N (matrix_of P N (sum_t P N A B d)) (plus_m (residues P) (matrix_of P N A) (matrix_of P N B))
  unfolding sum_w matrix_of
  sum_stands A B d ok i j hi hj =
      ap (λ (t : List ℕ). matrix_of P N (table (A.lower + B.lower) (A.upper + B.upper) t) i j) (after_is (sum_reply P N A B d) (sum_w P N A B) d ok)
      ∙ written P N (A.lower + B.lower) (A.upper + B.upper) _ _ i j hi hj
      ∙ ap₂ (λ (r s : ℕ → ℕ). entry_of r s (sums_g (gap N A.lower) (gap N A.upper) (gap N B.lower) (gap N B.upper) (gens P N A) (gens P N B)) i j)
      (sym (gap_plus N A.lower B.lower)) (sym (gap_plus N A.upper B.upper))
      ∙ sum_matrix (gap N A.lower) (gap N A.upper) (gap N B.lower) (gap N B.upper) _ _ N i j hi hj

  pub product_stands : (A B : Table) (d : List ℕ) → Accepted (product_reply P N A B d)
      → Same (residues P) N (matrix_of P N (product_t P N A B d)) (times_m (residues P) N (matrix_of P N A) (matrix_of P N B))
  unfolding product_w matrix_of
  product_stands A B d ok i j hi hj =
      ap (λ (t : List ℕ). matrix_of P N (table (A.lower + B.lower) (A.upper + B.upper) t) i j) (after_is (product_reply P N A B d) (product_w P N A B) d ok)
      ∙ written P N (A.lower + B.lower) (A.upper + B.upper) _ _ i j hi hj
      ∙ ap₂ (λ (r s : ℕ → ℕ). entry_of r s (products_g (gap N A.lower) (gap N A.upper) (gap N B.lower) (gap N B.upper) (gens P N A)
      (gens P N B) N) i j)
      (sym (gap_plus N A.lower B.lower)) (sym (gap_plus N A.upper B.upper))
      ∙ product_matrix (gap N A.lower) (gap N A.upper) (gap N B.lower) (gap N B.upper) _ _ N i j hi hj

  inverse_prime : (A : Table) (d : List ℕ) → Accepted (inverse_reply P N A d) → Prime P
  inverse_prime A d ok = (((accepts P N A).inverse d).0 ok).0.0

  solve_prime : (A : Table) (x v d : List ℕ) → Accepted (solve_reply P N A x v d) → Prime P
  solve_prime A x v d ok = (((accepts P N A).solve x v d).0 ok).0.0

  inverse_words : (A : Table) (d : List ℕ) → Accepted (inverse_reply P N A d)
      → Same (residues P) N (matrix_of P N (inverse_t P N A d)) (entry_of (gap N A.lower) (gap N A.upper)
      (inverses_g (gap N A.lower) (gap N A.upper) (gens P N A) N))
  unfolding inverse_w
  inverse_words A d ok i j hi hj =
      ap (λ (t : List ℕ). matrix_of P N (with_words A t) i j) (after_is (inverse_reply P N A d) (inverse_w P N A) d ok)
      ∙ written P N A.lower A.upper _ _ i j hi hj

  inverse_pivots : (A : Table) (d : List ℕ) → Accepted (inverse_reply P N A d) → first_zero_of P N A ≡ 0
  inverse_pivots A d ok = none_regular P N A (inverse_prime A d ok) (((accepts P N A).inverse d).0 ok).3

  solve_pivots : (A : Table) (x v d : List ℕ) → Accepted (solve_reply P N A x v d) → first_zero_of P N A ≡ 0
  solve_pivots A x v d ok = none_regular P N A (solve_prime A x v d ok) (((accepts P N A).solve x v d).0 ok).5

  pub inverse_left : (A : Table) (d : List ℕ) → Accepted (inverse_reply P N A d)
      → Same (residues P) N (times_m (residues P) N (matrix_of P N (inverse_t P N A d)) (matrix_of P N A)) (identity (residues P))
  unfolding matrix_of
  inverse_left A d ok i j hi hj =
      let prime = inverse_prime A d ok in
      times_same (residues P) N (matrix_of P N (inverse_t P N A d)) _ (matrix_of P N A) (matrix_of P N A) (inverse_words A d ok) (λ i j hi hj. refl) i j hi hj
      ∙ inverse_table (field P prime) (gap N A.lower) (gap N A.upper) (gens P N A) N (regular P N A prime (inverse_pivots A d ok)) i j hi hj

  pub inverse_right : (A : Table) (d : List ℕ) → Accepted (inverse_reply P N A d)
      → Same (residues P) N (times_m (residues P) N (matrix_of P N A) (matrix_of P N (inverse_t P N A d))) (identity (residues P))
  unfolding matrix_of
  inverse_right A d ok i j hi hj =
      let prime = inverse_prime A d ok in
      times_same (residues P) N (matrix_of P N A) (matrix_of P N A) (matrix_of P N (inverse_t P N A d)) _ (λ i j hi hj. refl) (inverse_words A d ok) i j hi hj
      ∙ table_inverse (field P prime) (gap N A.lower) (gap N A.upper) (gens P N A) N (regular P N A prime (inverse_pivots A d ok)) i j hi hj

  pub applied_word : (A : Table) (x d : List ℕ) → Accepted (apply_reply P N A x d) → (k : ℕ) → k < N
      → get_or (apply_after P N A x d) k 0 ≡ val P (sends (residues P) N (matrix_of P N A) (column P x) k)
  unfolding apply_w
  applied_word A x d ok k h = ap (λ (t : List ℕ). get_or t k 0) (after_is (apply_reply P N A x d) (apply_w P N A x) d ok)
      ∙ get_d_here N (λ k. val P (sends (residues P) N (matrix_of P N A) (column P x) k)) _ k h

  applied_product : (A B : Table) (c x e f g : List ℕ) → Accepted (product_reply P N A B c) → Accepted (apply_reply P N (product_t P N A B c) x e)
      → Accepted (apply_reply P N B x f) → Accepted (apply_reply P N A (apply_after P N B x f) g)
      → SameColumn N (apply_after P N (product_t P N A B c) x e) (apply_after P N A (apply_after P N B x f) g)
  applied_product A B c x e f g o1 o2 o3 o4 k h =
      applied_word (product_t P N A B c) x e o2 k h
      ∙ ap (val P) (sends_same (residues P) N _ _ (column P x) (column P x) (product_stands A B c o1) (λ k h. refl) k h
      ∙ sends_times (residues P) N (matrix_of P N A) (matrix_of P N B) (column P x) k
      ∙ sends_same (residues P) N (matrix_of P N A) (matrix_of P N A) _ _ (λ i j hi hj. refl)
      (λ k h. sym (ap (res P) (applied_word B x f o3 k h) ∙ res_val P _)) k h)
      ∙ sym (applied_word A (apply_after P N B x f) g o4 k h)

  product_by_sum' : (A B C : Table) (c d e f g : List ℕ) → Accepted (sum_reply P N B C c) → Accepted (product_reply P N A (sum_t P N B C c) d)
      → Accepted (product_reply P N A B e) → Accepted (product_reply P N A C f)
      → Accepted (sum_reply P N (product_t P N A B e) (product_t P N A C f) g)
      → Same (residues P) N (matrix_of P N (product_t P N A (sum_t P N B C c) d)) (matrix_of P N (sum_t P N (product_t P N A B e) (product_t P N A C f) g))
  product_by_sum' A B C c d e f g o1 o2 o3 o4 o5 i j hi hj =
      product_stands A (sum_t P N B C c) d o2 i j hi hj
      ∙ times_same (residues P) N (matrix_of P N A) (matrix_of P N A) _ _ (λ i j hi hj. refl) (sum_stands B C c o1) i j hi hj
      ∙ times_plus_lem (residues P) N (matrix_of P N A) (matrix_of P N B) (matrix_of P N C) i j
      ∙ sym (sum_stands (product_t P N A B e) (product_t P N A C f) g o5 i j hi hj
      ∙ ap₂ (residues P).add (product_stands A B e o3 i j hi hj) (product_stands A C f o4 i j hi hj))

  sum_by_product' : (A B C : Table) (c d e f g : List ℕ) → Accepted (sum_reply P N A B c) → Accepted (product_reply P N (sum_t P N A B c) C d)
      → Accepted (product_reply P N A C e) → Accepted (product_reply P N B C f)
      → Accepted (sum_reply P N (product_t P N A C e) (product_t P N B C f) g)
      → Same (residues P) N (matrix_of P N (product_t P N (sum_t P N A B c) C d)) (matrix_of P N (sum_t P N (product_t P N A C e) (product_t P N B C f) g))
  sum_by_product' A B C c d e f g o1 o2 o3 o4 o5 i j hi hj =
      product_stands (sum_t P N A B c) C d o2 i j hi hj
      ∙ times_same (residues P) N _ _ (matrix_of P N C) (matrix_of P N C) (sum_stands A B c o1) (λ i j hi hj. refl) i j hi hj
      ∙ plus_times (residues P) N (matrix_of P N A) (matrix_of P N B) (matrix_of P N C) i j
      ∙ sym (sum_stands (product_t P N A C e) (product_t P N B C f) g o5 i j hi hj
      ∙ ap₂ (residues P).add (product_stands A C e o3 i j hi hj) (product_stands B C f o4 i j hi hj))

  -- the product of a list of factors
  list_matrix : Table → List Table → Matrix (residues P)
  list_matrix A [] = matrix_of P N A
  list_matrix A (B ∷ Bs) = times_m (residues P) N (matrix_of P N A) (list_matrix B Bs)

  list_cut : (A : Table) (As : List Table) (B : Table) (Bs : List Table)
      → Same (residues P) N (list_matrix A (As ++ (B ∷ Bs))) (times_m (residues P) N (list_matrix A As) (list_matrix B Bs))
  unfolding list_matrix
  list_cut A [] B Bs i j hi hj = refl
  list_cut A (C ∷ Cs) B Bs i j hi hj =
      times_same (residues P) N (matrix_of P N A) (matrix_of P N A) _ _ (λ i j hi hj. refl) (list_cut C Cs B Bs) i j hi hj
      ∙ sym (times_assoc (residues P) N (matrix_of P N A) (list_matrix C Cs) (list_matrix B Bs) i j)

  grouping_is : (g : Grouping) → AllAccept P N g → Same (residues P) N (matrix_of P N (grouped P N g)) (list_matrix (first_factor g) (other_factors g))
  unfolding list_matrix
  grouping_is (factor A) ok i j hi hj = refl
  grouping_is (cut g h d) ok i j hi hj =
      product_stands (grouped P N g) (grouped P N h) d ok.2 i j hi hj
      ∙ times_same (residues P) N _ _ _ _ (grouping_is g ok.0) (grouping_is h ok.1) i j hi hj
      ∙ sym (list_cut (first_factor g) (other_factors g) (first_factor h) (other_factors h) i j hi hj)

  groupings' : (g h : Grouping) → first_factor g ≡ first_factor h → other_factors g ≡ other_factors h → AllAccept P N g → AllAccept P N h
      → Same (residues P) N (matrix_of P N (grouped P N g)) (matrix_of P N (grouped P N h))
  groupings' g h e f og oh i j hi hj = grouping_is g og i j hi hj ∙ ap₂ (λ (A : Table) (As : List Table). list_matrix A As i j) e f
      ∙ sym (grouping_is h oh i j hi hj)

  pub solved_column : (A : Table) (x v d : List ℕ) → Accepted (solve_reply P N A x v d) → (k : ℕ) → k < N
      → column P (solve_after P N A x v d) k ≡ solved_g (gap N A.lower) (gap N A.upper) (gens P N A) (column P x) N k
  unfolding solve_w
  solved_column A x v d ok k h =
      ap (λ (t : List ℕ). res P (get_or t k 0)) (after_is (solve_reply P N A x v d) (solve_w P N A x) d ok)
      ∙ ap (res P) (get_d_here N (λ k. val P (solved_g (gap N A.lower) (gap N A.upper) (gens P N A) (column P x) N k)) _ k h) ∙ res_val P _

  solve_sends : (A : Table) (x v d : List ℕ) → Accepted (solve_reply P N A x v d) → (k : ℕ) → k < N
      → sends (residues P) N (matrix_of P N A) (column P (solve_after P N A x v d)) k ≡ column P x k
  unfolding matrix_of
  solve_sends A x v d ok k h =
      let prime = solve_prime A x v d ok in
      sends_same (residues P) N (matrix_of P N A) (matrix_of P N A) _ _ (λ i j hi hj. refl) (solved_column A x v d ok) k h
      ∙ solution (field P prime) (gap N A.lower) (gap N A.upper) (gens P N A) N (regular P N A prime (solve_pivots A x v d ok)) (column P x) k h

  solve_only' : (A : Table) (x v d : List ℕ) → Accepted (solve_reply P N A x v d) → (y : ℕ → (residues P).car)
      → ((k : ℕ) → k < N → sends (residues P) N (matrix_of P N A) y k ≡ column P x k) → (k : ℕ) → k < N → y k ≡ column P (solve_after P N A x v d) k
  unfolding matrix_of
  solve_only' A x v d ok y e =
      let prime = solve_prime A x v d ok in
      one_to_one (field P prime) (gap N A.lower) (gap N A.upper) (gens P N A) N (regular P N A prime (solve_pivots A x v d ok))
      y (column P (solve_after P N A x v d)) (λ k h. e k h ∙ sym (solve_sends A x v d ok k h))

  -- the same by words, which are below P
  solve_words' : (A : Table) (x v d : List ℕ) → Accepted (solve_reply P N A x v d) → (k : ℕ) → k < N
      → val P (sends (residues P) N (matrix_of P N A) (column P (solve_after P N A x v d)) k) ≡ get_or x k 0
  solve_words' A x v d ok k h = ap (val P) (solve_sends A x v d ok k h)
      ∙ val_small P (prime_pos P (solve_prime A x v d ok)) (get_or x k 0) ((((accepts P N A).solve x v d).0 ok).2.1 k h)

  pivot_reply : (m : ℕ) → answer (record { cause = ltb 0 m; refusal = refuse 7 1 m } ∷ []) (accept 0) ≡ at_pivot m
  unfolding answer
  pivot_reply m = refl

  at_row : (m : ℕ) → 1 ≤ m → at_pivot m ≡ refuse 7 1 m
  at_row m h = rw (lt-ltb 0 m h)

  refused_at : (m k : ℕ) → at_pivot m ≡ refuse 7 1 k → (m ≡ k) × (0 < k)
  refused_at zero k e = absurd (let z : ◌≡◌ {A = ℕ} 0 7 = ap (λ (y : Reply). y.number) e in omega arith)
  refused_at (suc m) k e = let z : suc m ≡ k = ap (λ (y : Reply). y.row) (sym (at_row (suc m) (omega arith)) ∙ e) in (z, omega arith)

  accepted_at : (m : ℕ) → Accepted (at_pivot m) → m ≡ 0
  accepted_at zero e = refl
  accepted_at (suc m) e = absurd (let z : ◌≡◌ {A = ℕ} 7 0 = ap (λ (y : Reply). y.number) (sym (at_row (suc m) (omega arith))) ∙ e in omega arith)

  module _ (A : Table) (prime : Prime P) (y : Reply) (o : y ≡ at_pivot (first_zero_of P N A)) where
    exactly : (k : ℕ) → (y ≡ refuse 7 1 k) ↔ LeastSingular (residues P) N (matrix_of P N A) k
    exactly k = (there, back)
      where
        there : y ≡ refuse 7 1 k → LeastSingular (residues P) N (matrix_of P N A) k
        there e = let q = refused_at (first_zero_of P N A) k (sym o ∙ e) in least_singular P N A prime k q.0 q.1

        back : LeastSingular (residues P) N (matrix_of P N A) k → y ≡ refuse 7 1 k
        back z = o ∙ ap at_pivot (singular_first P N A prime k z) ∙ at_row k z.from

    regular_accepts : Accepted y ↔ ((k : ℕ) → k ≤ N → Singular (residues P) (matrix_of P N A) k → ⊥)
    regular_accepts = (there, back)
      where
        there : Accepted y → (k : ℕ) → k ≤ N → Singular (residues P) (matrix_of P N A) k → ⊥
        there e = regular_none P N A prime (accepted_at (first_zero_of P N A) (ap (λ (y : Reply). y.number) (sym o) ∙ e))

        back : ((k : ℕ) → k ≤ N → Singular (residues P) (matrix_of P N A) k → ⊥) → Accepted y
        back n = ap (λ (y : Reply). y.number) o ∙ ap (λ (m : ℕ). (at_pivot m).number) (none_regular P N A prime n)

  pub solve_open : (A : Table) (x v d : List ℕ) → NoFault (solve_earlier P N A x v d) → solve_reply P N A x v d ≡ at_pivot (first_zero_of P N A)
  unfolding solve_reply
  solve_open A x v d z = answer_append (solve_earlier P N A x v d) (check_pivots P N A ∷ []) (accept 0) ∙ open_checks (solve_earlier P N A x v d) _ z
      ∙ pivot_reply (first_zero_of P N A)

  pub inverse_open : (A : Table) (d : List ℕ) → NoFault (inverse_earlier P N A d) → inverse_reply P N A d ≡ at_pivot (first_zero_of P N A)
  unfolding inverse_reply
  inverse_open A d z = answer_append (inverse_earlier P N A d) (check_pivots P N A ∷ []) (accept 0) ∙ open_checks (inverse_earlier P N A d) _ z
      ∙ pivot_reply (first_zero_of P N A)

  pub algebra : Algebra P N
  algebra = record {
    sum = sum_stands;
    product = product_stands;
    inverse_left = inverse_left;
    inverse_right = inverse_right;
    applied = applied_product;
    groupings = groupings';
    product_by_sum = product_by_sum';
    sum_by_product = sum_by_product';
    solve = solve_sends;
    solve_words_lem = solve_words';
    solve_only = solve_only';
    solve_singular = λ A x v d z k. exactly A (good_prime standard.prime P (z 0)) (solve_reply P N A x v d) (solve_open A x v d z) k;
    inverse_singular = λ A d z k. exactly A (good_prime standard.prime P (z 0)) (inverse_reply P N A d) (inverse_open A d z) k;
    solve_accepted = λ A x v d z. regular_accepts A (good_prime standard.prime P (z 0)) (solve_reply P N A x v d) (solve_open A x v d z);
    inverse_accepted = λ A d z. regular_accepts A (good_prime standard.prime P (z 0)) (inverse_reply P N A d) (inverse_open A d z);
  }
