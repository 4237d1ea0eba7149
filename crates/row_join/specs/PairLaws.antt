-- Laws of two lists of words that are written one after the other, and of the lines of a block of four corners.
use Rattle.std.specs.Prelude.{◌≡◌, List, ℕ, ◌+◌, ◌-◌, ◌*◌, ◌<◌, ◌≤◌, length, get_or}
use Rattle.std.proofs.Common.{sym, ap, ◌∙◌, arith}
use Rattle.algebra.specs.Sums.{join}
use Rattle.algebra.proofs.Join.{join_left, join_right}
use Rattle.lists.specs.Lists.{put_at}
use Rattle.lists.specs.Writing.{put_same}
use Rattle.row_words.specs.PutLaws.{put_add}
use Rattle.row_words.specs.Rows.{words_at}
use Rattle.row_halves.specs.declared.Half.{Half}
use Rattle.row_join.specs.Pairs.{corner_words, block_in}

-- words that are copied one apart, and those of a line of a block
pub by_one : (t : List ℕ) (a j : ℕ) → get_or t (a + j * 1) 0 ≡ words_at t a j
by_one t a j = let z : a + j * 1 ≡ a + j = omega arith in ap (λ (i : ℕ). get_or t i 0) z

pub line_by_one : (row : List ℕ) (h : Half) (i j : ℕ) → get_or row (h.block + i * h.order + j * 1) 0 ≡ block_in row h i j
line_by_one row h i j = let z : h.block + i * h.order + j * 1 ≡ h.block + (i * h.order + j) = omega arith in ap (λ (k : ℕ). get_or row k 0) z

-- n words u, then m words v; the code writes them as f and g
pub put_join : (at n m : ℕ) (f g u v : ℕ → ℕ) (d : List ℕ) {a b : List ℕ} → at ≤ length d → a ≡ put_at at n f d → b ≡ put_at (at + n) m g a
    → ((j : ℕ) → f j ≡ u j) → ((j : ℕ) → g j ≡ v j) → b ≡ put_at at (n + m) (join n u v) d
put_join at n m f g u v d h e q x y =
    put_add at n m (join n u v) g d h (e ∙ put_same at n f (join n u v) d (λ j l. x j ∙ sym (join_left n u v j l))) q (λ j l. y j ∙ sym (join_right n u v j))

join_past : (n : ℕ) (u v : ℕ → ℕ) (i : ℕ) → n ≤ i → join n u v i ≡ v (i - n)
join_past n u v i h = let z : i ≡ n + (i - n) = omega arith in ap (join n u v) z ∙ join_right n u v (i - n)

-- line i of a block of four corners: an upper one, and a lower one
module _ (at n m i : ℕ) (u w v : ℕ → ℕ → ℕ) (d : List ℕ) {a b : List ℕ} (within : at ≤ length d) where
  pub upper_line : (f : ℕ → ℕ) → i < n → a ≡ put_at at n f d → b ≡ put_at (at + n) m (w i) a → ((j : ℕ) → f j ≡ u i j)
      → b ≡ put_at at (n + m) (corner_words n u w v i) d
  upper_line f h e q x = put_join at n m f (w i) _ _ d within e q (λ j. x j ∙ sym (join_left n (λ k. u k j) (λ k. 0) i h))
      (λ j. sym (join_left n (λ k. w k j) (λ k. v k j) i h))

  pub lower_line : (g : ℕ → ℕ) → n ≤ i → a ≡ put_at at n (λ e. 0) d → b ≡ put_at (at + n) m g a → ((j : ℕ) → g j ≡ v (i - n) j)
      → b ≡ put_at at (n + m) (corner_words n u w v i) d
  lower_line g h e q y = put_join at n m (λ j. 0) g _ _ d within e q (λ j. sym (join_past n (λ k. u k j) (λ k. 0) i h))
      (λ j. y j ∙ sym (join_past n (λ k. w k j) (λ k. v k j) i h))
