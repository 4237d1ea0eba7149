-- The row of maps that generators stand for, and the entry as the scope has it.
use Rattle.std.specs.Prelude.{◌≡◌}
use Rattle.std.proofs.Math.Path.{sym, ap, fun_ext}
use Rattle.std.proofs.Common.{◌∙◌, subst}
use Prim.Native.Nat.{ℕ, zero, suc, ◌<◌, ◌+◌, ◌-◌}
use native.Mathlib.Omega.{arith}
use Rattle.std.proofs.Math.Decide.{dec_lt}
use borrow.Author.Tests.{lt-ltb, le-ltb}
use Rattle.algebra.specs.Ring.{Ring}
use Rattle.algebra.specs.Sums.{dot}
use Rattle.algebra.specs.Linear.{Hom}
use Rattle.algebra.specs.Run.{Row, Run}
use Rattle.algebra.specs.Coord.{self, vecs, cols, ray}
use Rattle.algebra.specs.RingLaws.{mul_one}
use Rattle.algebra.specs.Totals.{total_ext}
use Rattle.algebra.specs.Entry.{entry, entry_scale, entries, run_out, same}
use Rattle.algebra.specs.Chain.{low_chain, up_chain, entry_same, entry_below_lem, entry_above_lem}
use Rattle.algebra.specs.Matrix.{column_of, sends}
use Rattle.algebra.specs.Generators.{Gens, below, above, entry_of}

-- r columns in p and a, s columns in g and b
unfoldable pub row_of : {K : Ring} (r s : ℕ) → Gens K → Row (self K) (self K) (vecs K) (vecs K)
unfolding self vecs
row_of {K} r s c = record {
  d = ray c.d;
  p = cols r c.p;
  a = cols r (column_of c.a);
  q = ray c.q;
  g = cols s c.g;
  b =
      cols s (column_of c.b);
  h = ray c.h;
}

-- a block with n columns
unfoldable pub map_of : {K : Ring} → ℕ → (ℕ → ℕ → K.car) → Hom (vecs K) (vecs K)
unfolding vecs
map_of n A = cols n (column_of A)

-- a word, a row of n words, and a column, as maps
unfoldable pub word_map : {K : Ring} → K.car → Hom (self K) (self K)
unfolding self
word_map m = ray m

unfoldable pub row_map : {K : Ring} → ℕ → (ℕ → K.car) → Hom (vecs K) (self K)
unfolding self
row_map n u = cols n u

unfoldable pub col_map : {K : Ring} → (ℕ → K.car) → Hom (self K) (vecs K)
unfolding vecs
col_map q = ray q

module _ {K : Ring} (r s : ℕ → ℕ) (c : ℕ → Gens K) where
  abbrev pub table_of : ℕ → Row (self K) (self K) (vecs K) (vecs K)
  table_of k = row_of (r k) (s (suc k)) (c k)

  -- one as a word of `self`
  unfoldable pub one_s : (self K).car
  unfolding self
  one_s = K.one

  low_is : (n j : ℕ) → low_chain table_of n j one_s ≡ unfold vecs in below r s c n j
  unfolding low_chain below one_s row_of cols ray self vecs
  low_is zero j = fun_ext (λ i. mul_one K ((c j).q i))
  low_is (suc n) j = ap (table_of (suc n + j)).a.fn (low_is n j)

  up_is : (n i : ℕ) → up_chain table_of n i one_s ≡ unfold vecs in above r s c n i
  unfolding up_chain above one_s row_of cols ray self vecs
  up_is zero i = fun_ext (λ k. mul_one K ((c i).h k))
  up_is (suc n) i = ap (table_of i).b.fn (up_is n (suc i))

  is_below : (i j : ℕ) → j < i → entry table_of i j one_s ≡ unfold self in entry_of r s c i j
  unfolding entry_of row_of cols self vecs
  is_below i j l = let e : suc (i - suc j) + j ≡ i = omega arith in
      rw (lt-ltb j i l) (subst (λ (m : ℕ). entry table_of m j one_s ≡ dot K (r m) (c m).p (below r s c (i - suc j) j)) e
      (entry_below_lem table_of (i - suc j) j one_s ∙ ap (table_of (suc (i - suc j) + j)).p.fn (low_is (i - suc j) j)))

  is_above : (i j : ℕ) → i < j → entry table_of i j one_s ≡ unfold self in entry_of r s c i j
  unfolding entry_of row_of cols self vecs
  is_above i j l = let e : suc (j - suc i) + i ≡ j = omega arith in
      rw (lt-ltb i j l, le-ltb j i (omega arith)) (subst (λ (m : ℕ). entry table_of i m one_s ≡ dot K (s (suc i)) (c i).g (above r s c (j - suc i) (suc i))) e
      (entry_above_lem table_of (j - suc i) i one_s ∙ ap (table_of i).g.fn (up_is (j - suc i) (suc i))))

  is_diagonal : (i j : ℕ) → i ≡ j → entry table_of i j one_s ≡ unfold self in entry_of r s c i j
  unfolding entry_of row_of ray self one_s
  is_diagonal i j e = rw (le-ltb j i (omega arith), le-ltb i j (omega arith), ← e) (entry_same table_of i one_s ∙ mul_one K (c i).d)

  entry_one : (i j : ℕ) → entry table_of i j one_s ≡ unfold self in entry_of r s c i j
  unfolding self
  entry_one i j = go (dec_lt j i) (dec_lt i j)
    where
      go : Dec (j < i) → Dec (i < j) → entry table_of i j one_s ≡ unfold self in entry_of r s c i j
      go (yes l) m = is_below i j l
      go (no n) (yes l) = is_above i j l
      go (no n) (no m) = is_diagonal i j (omega arith)

  -- the entry of the maps is the scope's entry, times t
  pub entry_is : (i j : ℕ) (t : (self K).car) → entry table_of i j t ≡ unfold self in K.mul (entry_of r s c i j) t
  unfolding self one_s
  entry_is i j t = ap (entry table_of i j) (sym (K.one_mul t)) ∙ entry_scale table_of i j t one_s ∙ ap (λ x. K.mul x t) (entry_one i j)

  -- A run's output is what the matrix sends its input to, and nothing else is.
  module _ (N : ℕ) (x : ℕ → (self K).car) where
    pub run_sends : Run N table_of x (unfold self in sends K N (entry_of r s c) x)
    unfolding self
    run_sends = run_out N table_of x _ _ (λ k h. total_ext (self K) N _ _ (λ j g. sym (entry_is k j (x j)))) (entries N table_of x)

    pub sends_run : (y : ℕ → (self K).car) → Run N table_of x y → (k : ℕ) → k < N → y k ≡ unfold self in sends K N (entry_of r s c) x k
    unfolding self
    sends_run y R k h = same N table_of x y _ R run_sends k h
