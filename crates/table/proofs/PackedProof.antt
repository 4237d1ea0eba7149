-- A call's reply as one number: the parts come back.
use Rattle.std.specs.Prelude.{Bool, true, false, ◌≡◌, refl, List, [], ◌∷◌, leb}
use Prim.Native.Nat.{ℕ, zero, suc, ◌-◌, ◌<◌, ◌≤◌}
use native.Mathlib.Omega.{arith}
use Rattle.std.proofs.Common.{le_of_suc-le-suc}
use Rattle.std.proofs.Math.Dec.{eqb}
use borrow.Author.Tests.{leb-true}
use Rattle.algebra.specs.Generators.{pick}
use Rattle.field.specs.PrimeTest.{is_prime_of}
use Rattle.field.specs.Residue.{val_below, prime_pos}
use Rattle.table.specs.Limits.{Limits, standard}
use Rattle.lists.specs.ListLaws.{first_le}
use Rattle.table.specs.Words.{Table, bad_row_of, first_bad_of, first_bad_place_of, matrix_of}
use Rattle.table.proofs.WordLaws.{bad_le, place_le}
use Rattle.table.specs.Results.{first_zero_of, pivot_w, entry_w}
use Rattle.table.specs.RowFile.{head_p, head_n, head_r, head_s, file_row_word, broken, first_broken_of, first_bad_in_file}
use Rattle.table.specs.Replies.{Reply, Check, answer, accept, refuse, cause_at, refusal_at, FirstFault, NoFault, bad_size_of}
use Rattle.table.specs.Calls.{size_checks, entry_checks, pair_checks, read_checks, entry_reply, matrix_reply, apply_reply, transpose_reply, multiple_reply}
use Rattle.table.specs.Calls.{sum_reply, product_reply, solve_reply, inverse_reply, write_reply, read_reply}
use Rattle.table.proofs.CallLaws.{both_hold, good_prime}
use Rattle.table.specs.Undertakings.{Packed, PackedReplies}

-- each part has room
abbrev pub Fits : Reply → Type 0
Fits y = (y.number < 256) × (y.buffer < 256) × (y.row < 65536) × (y.value < 4294967296)

pub parts : (y : Reply) → Fits y → Packed y
parts y f = record {
  small = omega (arith, f.0, f.1, f.2, f.3);
  number = omega (arith, f.0, f.1, f.2, f.3);
  buffer = omega (arith, f.0, f.1, f.2, f.3);
  row = omega (arith, f.0, f.1, f.2, f.3);
  value = omega (arith, f.0, f.1, f.2, f.3);
}

pub fits_answer : (cs : List Check) (v : Reply) → ((n : ℕ) → FirstFault cs n → Fits (refusal_at cs n)) → (NoFault cs → Fits v) → Fits (answer cs v)
unfolding answer
fits_answer [] v h g = g (λ n. refl)
fits_answer (c ∷ cs) v h g = go c.cause refl (λ h g. fits_answer cs v h g)
  where
    before : c.cause ≡ false → (n : ℕ) → ((m : ℕ) → m < n → cause_at cs m ≡ false) → (m : ℕ) → m < suc n → cause_at (c ∷ cs) m ≡ false
    before q n h zero l = q
    before q n h (suc m) l = h m (le_of_suc-le-suc l)

    all : c.cause ≡ false → NoFault cs → (n : ℕ) → cause_at (c ∷ cs) n ≡ false
    all q z zero = q
    all q z (suc n) = z n

    go : (b : Bool) → c.cause ≡ b → (((n : ℕ) → FirstFault cs n → Fits (refusal_at cs n)) → (NoFault cs → Fits v) → Fits (answer cs v))
        → Fits (pick b c.refusal (answer cs v))
    go true q ih = h 0 (q, λ m l. absurd (omega arith))
    go false q ih = ih (λ n z. h (suc n) (z.0, before q n z.1)) (λ z. g (all q z))

pub plain : (n b k : ℕ) → n < 256 → b < 256 → k < 65536 → Fits (refuse n b k)
plain n b k hn hb hk = (hn, hb, hk, omega arith)

pub record AllFit (cs : List Check) : Type 0 where
  pub at : (n : ℕ) → Fits (refusal_at cs n)

pub fit_nil : AllFit []
fit_nil = record { at = λ n. (omega arith, omega arith, omega arith, omega arith) }

pub fit_cons : (c : Check) (cs : List Check) → Fits c.refusal → AllFit cs → AllFit (c ∷ cs)
fit_cons c cs h t = record { at = go }
  where
    go : (n : ℕ) → Fits (refusal_at (c ∷ cs) n)
    go zero = h
    go (suc n) = t.at n

infixr 55 ◌⊳◌
pub ◌⊳◌ : {c : Check} {cs : List Check} → Fits c.refusal → AllFit cs → AllFit (c ∷ cs)
◌⊳◌ {c} {cs} = fit_cons c cs

-- a refusal without a place
pub bare : (n : ℕ) → n < 256 → Fits (refuse n 0 0)
bare n h = plain n 0 0 h (omega arith) (omega arith)

pub zero_fits : Fits (accept 0)
zero_fits = (omega arith, omega arith, omega arith, omega arith)

pub size_is : (limit N : ℕ) → bad_size_of limit N ≡ false → N ≤ limit
size_is limit N e = leb-true N limit (both_hold (leb 1 N) (leb N limit) e).1

module _ (P N : ℕ) (A : Table) where
  pub fits_sizes : (L : Limits) (cs : List Check) (v : Reply) → (N ≤ L.size → AllFit cs) → (NoFault (size_checks P N L A cs) → Fits v)
      → Fits (answer (size_checks P N L A cs) v)
  fits_sizes L cs v h g = fits_answer (size_checks P N L A cs) v go g
    where
      go : (n : ℕ) → FirstFault (size_checks P N L A cs) n → Fits (refusal_at (size_checks P N L A cs) n)
      go zero z = plain 1 0 0 (omega arith) (omega arith) (omega arith)
      go (suc zero) z = plain 2 0 0 (omega arith) (omega arith) (omega arith)
      go (suc (suc zero)) z = plain 3 1 0 (omega arith) (omega arith) (omega arith)
      go (suc (suc (suc n))) z = (h (size_is L.size N (z.1 1 (omega arith)))).at n

  pub short_fits : (b : ℕ) → b < 256 → Fits (refuse 4 b 0)
  short_fits b h = plain 4 b 0 (omega arith) h (omega arith)

  pub words_fit : (b : ℕ) → b < 256 → (B : Table) → N ≤ standard.size → Fits (refuse 5 b (first_bad_of P N B))
  words_fit b h B l = plain 5 b _ (omega arith) h (omega (arith, bad_le P N B))

  pub column_fits : (x : List ℕ) → N ≤ standard.size → Fits (refuse 5 3 (first_bad_place_of P N x))
  column_fits x l = plain 5 3 _ (omega arith) (omega arith) (omega (arith, place_le P N x))

  pivot_fits : N ≤ standard.size → Fits (refuse 7 1 (first_zero_of P N A))
  unfolding first_zero_of
  pivot_fits l = plain 7 1 _ (omega arith) (omega arith) (omega (arith, first_le N (λ k. eqb (pivot_w P N A k) 0)))

  entry_fits : (i j : ℕ) → NoFault (entry_checks P N A i j) → Fits (accept (entry_w P N A (i - 1) (j - 1)))
  unfolding entry_w
  entry_fits i j z =
      let p : P ≤ standard.prime = leb-true P standard.prime (both_hold (is_prime_of P) (leb P standard.prime) (z 0)).1 in
      (omega arith, omega arith, omega arith, omega (arith, val_below P (prime_pos P (good_prime standard.prime P (z 0))) (matrix_of P N A (i - 1) (j - 1))))

  -- the lengths of the buffers, and the words of the first table
  f1 : Fits (refuse 4 1 0)
  f1 = short_fits 1 (omega arith)

  f3 : Fits (refuse 4 3 0)
  f3 = short_fits 3 (omega arith)

  f5 : Fits (refuse 4 5 0)
  f5 = short_fits 5 (omega arith)

  w1 : N ≤ standard.size → Fits (refuse 5 1 (first_bad_of P N A))
  w1 = words_fit 1 (omega arith) A

  -- sum and product
  pair_fits : (B : Table) (d : List ℕ) → Fits (answer (pair_checks P N A B d) (accept 0))
  pair_fits B d = fits_sizes standard _ _ (λ l. plain 3 2 0 (omega arith) (omega arith) (omega arith) ⊳ bare 6 (omega arith)
      ⊳ f1 ⊳ short_fits 2 (omega arith) ⊳ f5 ⊳ w1 l ⊳ words_fit 2 (omega arith) B l ⊳ fit_nil) (λ z. zero_fits)

  read_fits : (f d : List ℕ) → Fits (read_reply f d)
  unfolding read_reply first_broken_of first_bad_in_file
  read_fits f d = fits_answer (read_checks f d) (accept (head_p f)) go last
    where
      go : (n : ℕ) → FirstFault (read_checks f d) n → Fits (refusal_at (read_checks f d) n)
      go zero z = plain 9 6 0 (omega arith) (omega arith) (omega arith)
      go (suc zero) z = plain 1 0 0 (omega arith) (omega arith) (omega arith)
      go (suc (suc zero)) z = plain 2 0 0 (omega arith) (omega arith) (omega arith)
      go (suc (suc (suc zero))) z = plain 3 6 0 (omega arith) (omega arith) (omega arith)
      go (suc (suc (suc (suc zero)))) z = plain 9 6 0 (omega arith) (omega arith) (omega arith)
      go (suc (suc (suc (suc (suc zero))))) z = plain 4 5 0 (omega arith) (omega arith) (omega arith)
      go (suc (suc (suc (suc (suc (suc zero)))))) z = plain 10 6 _ (omega arith) (omega arith)
          (omega (arith, first_le (suc (head_n f)) (broken f), size_is standard.size (head_n f) (z.1 2 (omega arith))))
      go (suc (suc (suc (suc (suc (suc (suc zero))))))) z = plain 5 6 _ (omega arith) (omega arith)
          (omega (
            arith,
            first_le (head_n f) (λ k. bad_row_of (head_p f) (head_n f) (head_r f) (head_s f) k (file_row_word f k)),
            size_is standard.size (head_n f) (z.1 2 (omega arith)),
          ))
      go (suc (suc (suc (suc (suc (suc (suc (suc n)))))))) z = zero_fits

      last : NoFault (read_checks f d) → Fits (accept (head_p f))
      last z = (
        omega arith,
        omega arith,
        omega arith,
        omega (arith, leb-true (head_p f) standard.prime (both_hold (is_prime_of (head_p f)) (leb (head_p f) standard.prime) (z 1)).1),
      )

  pub replies : PackedReplies P N A
  unfolding entry_reply matrix_reply apply_reply transpose_reply multiple_reply sum_reply product_reply solve_reply inverse_reply write_reply
  replies = record {
    entry = λ i j. parts _ (fits_sizes standard _ _ (λ l. bare 8 (omega arith) ⊳ f1 ⊳ w1 l ⊳ fit_nil) (entry_fits i j));
    matrix = λ d. parts _ (fits_sizes standard _ _ (λ l. f1 ⊳ f5 ⊳ w1 l ⊳ fit_nil) (λ z. zero_fits));
    apply = λ x d. parts _ (fits_sizes standard _ _ (λ l. f1 ⊳ f3 ⊳ f5 ⊳ w1 l ⊳ column_fits x l ⊳ fit_nil) (λ z. zero_fits));
    transpose = λ d. parts _ (fits_sizes standard _ _ (λ l. f1 ⊳ f5 ⊳ w1 l ⊳ fit_nil) (λ z. zero_fits));
    multiple = λ c d. parts _ (fits_sizes standard _ _ (λ l. f1 ⊳ f5 ⊳ bare 5 (omega arith) ⊳ w1 l ⊳ fit_nil) (λ z. zero_fits));
    sum = λ B d. parts _ (pair_fits B d);
    product = λ B d. parts _ (pair_fits B d);
    solve = λ x v d. parts _ (fits_sizes standard _ _
        (λ l. f1 ⊳ f3 ⊳ short_fits 4 (omega arith) ⊳ f5 ⊳ w1 l ⊳ column_fits x l ⊳ pivot_fits l ⊳ fit_nil) (λ z. zero_fits));
    inverse = λ d. parts _ (fits_sizes standard _ _ (λ l. f1 ⊳ f5 ⊳ w1 l ⊳ pivot_fits l ⊳ fit_nil) (λ z. zero_fits));
    write = λ f. parts _ (fits_sizes standard _ _ (λ l. f1 ⊳ short_fits 6 (omega arith) ⊳ w1 l ⊳ fit_nil) (λ z. zero_fits));
    read = λ f d. parts _ (read_fits f d);
  }
