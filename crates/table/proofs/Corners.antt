-- The first k rows of a table are a table of k rows, which stands for the leading k by k corner.
use Rattle.std.specs.Prelude.{◌≡◌}
use Rattle.std.proofs.Math.Path.{sym}
use Rattle.std.proofs.Common.{◌∙◌, le_trans, arith}
use Prim.Native.Nat.{ℕ, suc, ◌<◌, ◌≤◌}
use Rattle.std.proofs.Math.Decide.{ℕ_discrete}
use Rattle.algebra.specs.Matrix.{Same}
use Rattle.algebra.specs.Kinds.{Kind, d_word, p_row, a_block, q_column, g_row, b_block, h_column}
use Rattle.algebra.proofs.Agree.{entries_agree, corner_agrees}
use Rattle.field.specs.Residue.{residues}
use Rattle.table.specs.Words.{Table, gap, Used, table_word, gens, matrix_of, first_bad_of}
use Rattle.table.proofs.WordLaws.{gap_full, gap_last, gen_used, words_below}

-- an order of the corner is that of the table, or 0 at the corner's end
gap_more : (k N r m : ℕ) → k ≤ N → m ≤ k → gap k r m ≤ gap N r m
gap_more k N r m h l = go (ℕ_discrete m 0) (ℕ_discrete m k)
  where
    go : Dec (m ≡ 0) → Dec (m ≡ k) → gap k r m ≤ gap N r m
    go (yes e) d = rw e (omega arith)
    go (no n) (yes e) = rw (e, gap_last k r) (omega arith)
    go (no n) (no e) = rw (gap_full k r m n (omega arith), gap_full N r m n (omega arith)) (omega arith)

-- what is used in a row of the corner is used in the table
module _ (k N r s i : ℕ) (h : k ≤ N) where
  more : (o m x : ℕ) → m ≤ k → x < gap k o m → x < gap N o m
  more o m x l u = le_trans u (gap_more k N o m h l)

  used_more : (κ : Kind) (a b : ℕ) → Used k r s i κ a b → Used N r s i κ a b
  used_more d_word a b u = (le_trans u.0 h, u.1, u.2)
  used_more p_row a b u = (le_trans u.0 h, u.1, more r i b (omega (arith, u.0)) u.2)
  used_more a_block a b u = (le_trans u.0 h, more r (suc i) a u.0 u.1, more r i b (omega (arith, u.0)) u.2)
  used_more q_column a b u = (le_trans u.0 h, more r (suc i) a u.0 u.1, u.2)
  used_more g_row a b u = (le_trans u.0 h, u.1, more s (suc i) b u.0 u.2)
  used_more b_block a b u = (le_trans u.0 h, more s i a (omega (arith, u.0)) u.1, more s (suc i) b u.0 u.2)
  used_more h_column a b u = (le_trans u.0 h, more s i a (omega (arith, u.0)) u.1, u.2)

module _ (P k N : ℕ) (A : Table) (h : k ≤ N) where
  pub corner_is : Same (residues P) k (matrix_of P k A) (matrix_of P N A)
  unfolding matrix_of gens
  corner_is i j hi hj =
      entries_agree k (gap k r) (gap k s) (gens P k A) (gens P N A) (λ i hi κ a b ha hb.
      gen_used P k r s i (table_word A i) κ a b (hi, ha, hb)
      ∙ sym (gen_used P N r s i (table_word A i) κ a b (used_more k N r s i h κ a b (hi, ha, hb)))) i j hi hj
      ∙ corner_agrees k (gap k r) (gap N r) (gap k s) (gap N s) (gens P N A) (λ m p l. same r m p l) (λ m p l. same s m p l) i j hi hj
    where
      r : ℕ
      r = A.lower

      s : ℕ
      s = A.upper

      same : (o m : ℕ) → 0 < m → m < k → gap k o m ≡ gap N o m
      same o m p l = gap_full k o m (λ q. absurd (omega arith)) (omega arith) ∙ sym (gap_full N o m (λ q. absurd (omega arith)) (omega arith))

  -- a corner of good words has good words
  pub corner_words_lem : first_bad_of P N A ≡ 0 → first_bad_of P k A ≡ 0
  corner_words_lem e = (words_below P k A).1 (λ i κ a b u. (words_below P N A).0 e i κ a b (used_more k N A.lower A.upper i h κ a b u))
