-- The column of a zero pivot: its last word is 1, the corner sends it to zeros, and no other such column does.
use Rattle.std.specs.Prelude.{◌≢◌, ◌≡◌, ℕ, zero, suc, ◌<◌, ◌≤◌, ◌-◌, leb}
use Rattle.std.proofs.Math.Path.{refl, sym, ap, ap₂, fun_ext}
use Rattle.std.proofs.Common.{◌∙◌, arith, lt-ltb, le-ltb, le-leb}
use Rattle.std.proofs.Math.Decide.{dec_lt}
use Rattle.std.proofs.lemmas.Bool.{lt-leb}
use Rattle.algebra.specs.Ring.{Ring, Field}
use Rattle.algebra.specs.Sums.{fold, act, dot}
use Rattle.algebra.specs.RingLaws.{neg_add, mul_one, zero_add, add_cancel}
use Rattle.algebra.specs.SumLaws.{dot_zeros}
use Rattle.algebra.specs.Linear.{comp, same_map, sub_p, zero_p}
use Rattle.algebra.specs.Coord.{self, vecs, cols, ray, two_ray, ray_zero}
use Rattle.algebra.specs.Singular.{sent_to_zeros}
use Rattle.algebra.specs.Matrix.{column_of, sends}
use Rattle.algebra.specs.Generators.{Gens, pick, fs, pivots, vs, ys, entry_of, kernel_from, kernel_behind, kernel_g}
use Rattle.algebra.proofs.Rows.{table_of, row_of, map_of, word_map, row_map, col_map, sends_run}
use Rattle.algebra.proofs.InverseTable.{f_start, one_to_one}
use Rattle.algebra.proofs.SolveTable.{factors}

-- The column's own laws, for the zero pivot at row n.
module _ {K : Ring} (r s : ℕ → ℕ) (c : ℕ → Gens K) (n : ℕ) where
  -- γ before row j; after row n it is zero
  γ : ℕ → ℕ → K.car
  γ j = pick (leb j n) (kernel_behind r s c (n - j) j) (λ i. K.zero)

  γ_end : γ (suc n) ≡ λ i. K.zero
  unfolding γ
  γ_end = rw (lt-leb (suc n) n (omega arith)) refl

  γ_here : (j : ℕ) → j ≤ n → γ j ≡ kernel_behind r s c (n - j) j
  unfolding γ
  γ_here j h = rw (le-leb j n h) refl

  pub kernel_last : kernel_g r s c n n ≡ K.one
  unfolding kernel_g
  kernel_last = rw (le-ltb n n (omega arith)) refl

  kernel_before : (j : ℕ) → j < n → kernel_g r s c n j ≡ kernel_from r s c j (γ (suc j))
  unfolding kernel_g
  kernel_before j h = rw (lt-ltb j n h, γ_here (suc j) h) refl

  -- γ before row j, from that after it and the word at the row
  abbrev next : (j : ℕ) (g : ℕ → K.car) (x : K.car) → ℕ → K.car
  next j g x i = K.add (act K (s (suc j)) (c j).b g i) (K.mul ((c j).h i) x)

  behind_more : (m j : ℕ) → kernel_behind r s c (suc m) j ≡ next j (kernel_behind r s c m (suc j)) (kernel_from r s c j (kernel_behind r s c m (suc j)))
  unfolding kernel_behind
  behind_more m j = refl

  behind_start : (j : ℕ) → kernel_behind r s c 0 j ≡ (c j).h
  unfolding kernel_behind
  behind_start j = refl

  γ_last : γ n ≡ next n (γ (suc n)) (kernel_g r s c n n)
  γ_last =
      let z : n - n ≡ 0 = omega arith in
      γ_here n (omega arith) ∙ ap (λ (m : ℕ). kernel_behind r s c m n) z ∙ behind_start n
      ∙ sym (ap₂ (next n) γ_end kernel_last ∙ fun_ext (λ i. ap₂ K.add (dot_zeros K (s (suc n)) ((c n).b i)) (mul_one K ((c n).h i)) ∙ zero_add K ((c n).h i)))

  γ_step : (j : ℕ) → j < suc n → γ j ≡ next j (γ (suc j)) (kernel_g r s c n j)
  γ_step j h = go (dec_lt j n)
    where
      go : Dec (j < n) → γ j ≡ next j (γ (suc j)) (kernel_g r s c n j)
      go (yes l) =
          let e : n - j ≡ suc (n - suc j) = omega arith in
          let g : kernel_behind r s c (n - suc j) (suc j) ≡ γ (suc j) = sym (γ_here (suc j) l) in
          γ_here j (omega arith) ∙ ap (λ (m : ℕ). kernel_behind r s c m j) e ∙ behind_more (n - suc j) j
          ∙ ap₂ (next j) g (ap (kernel_from r s c j) g ∙ sym (kernel_before j l))
      go (no l) = let e : j ≡ n = omega arith in rw e γ_last

-- The first zero pivot is at row n.
module _ {K : Ring} (F : Field K) (r s : ℕ → ℕ) (c : ℕ → Gens K) (n : ℕ)
    (ok : (k : ℕ) → k < n → pivots r s c k ≢ K.zero) (bad : pivots r s c n ≡ K.zero) where
  stop : (t : (self K).car) → (table_of r s c n).d.fn t ≡ (table_of r s c n).p.fn ((map_of (s n) (fs r s c n)).fn ((table_of r s c n).h.fn t))
  unfolding pivots self vecs row_of map_of cols ray
  stop t =
      two_ray (same_map (self K)) (comp (cols (r n) (c n).p) (cols (s n) (column_of (fs r s c n)))) (pivots r s c n) (c n).h (c n).d
      (sub_p (self K) _ _) t
      ∙ ap₂ (self K).plus (ap (λ u. (ray {A = self K} u).fn t) bad ∙ ray_zero K (self K) t) refl ∙ zero_p (self K) _

  -- the corner of n + 1 rows sends the column to zeros
  pub kernel_sent : (k : ℕ) → k < suc n → sends K (suc n) (entry_of r s c) (kernel_g r s c n) k ≡ K.zero
  unfolding self vecs row_of row_map col_map map_of word_map cols ray
  kernel_sent k h = sym (sends_run r s c (suc n) (kernel_g r s c n) (λ k. K.zero)
      (sent_to_zeros n (table_of r s c) (λ k. word_map (pivots r s c k)) (λ k. row_map (s (suc k)) (vs r s c k)) (λ k. col_map (ys r s c k))
      (λ k. map_of (s k) (fs r s c k)) (f_start F r s c n ok) (factors F r s c n ok) stop (kernel_g r s c n) (γ r s c n) (γ_end r s c n)
      (λ k h. ap (λ t. K.add t (dot K (s (suc k)) (vs r s c k) (γ r s c n (suc k)))) (kernel_before r s c n k h) ∙ neg_add K _)
      (γ_step r s c n)) k h)

  -- two columns with one word at row n that the corner sends to one column are one
  pub kernel_only : (x x' : ℕ → K.car) → x n ≡ x' n
      → ((k : ℕ) → k < suc n → sends K (suc n) (entry_of r s c) x k ≡ sends K (suc n) (entry_of r s c) x' k) → (k : ℕ) → k < suc n → x k ≡ x' k
  unfolding fold
  kernel_only x x' e f k h = go (dec_lt k n)
    where
      fewer : (k : ℕ) → k < n → sends K n (entry_of r s c) x k ≡ sends K n (entry_of r s c) x' k
      fewer k l = add_cancel K (K.mul (entry_of r s c k n) (x n)) _ _
          (K.add_comm _ _ ∙ f k (omega arith) ∙ ap (λ t. K.add (sends K n (entry_of r s c) x' k) (K.mul (entry_of r s c k n) t)) (sym e) ∙ K.add_comm _ _)

      go : Dec (k < n) → x k ≡ x' k
      go (yes l) = one_to_one F r s c n ok x x' fewer k l
      go (no l) = let q : k ≡ n = omega arith in ap x q ∙ e ∙ sym (ap x' q)
