-- A row file written from a table reads back as that table, with the idle words zero.
use Rattle.std.specs.Prelude.{Bool, ◌||◌, not, ◌≢◌, ◌↔◌, ◌≡◌, length, get_or}
use Rattle.std.proofs.Math.Bool.{true, false}
use Rattle.std.proofs.Math.Logic.{inl, inr}
use mathlib.Core.HLevel.{dec→stable}
use Rattle.std.proofs.Math.Path.{refl, ap, ap₂, fun_ext}
use Rattle.std.proofs.Common.{sym, ◌∙◌, length-append}
use mathlib.Core.List.{List, [], ◌∷◌, ◌++◌}
use Prim.Native.Nat.{ℕ, zero, suc, ◌+◌, ◌-◌, ◌*◌, ◌/◌, ◌%◌, ◌<◌, ◌≤◌}
use Rattle.std.proofs.Math.Decide.{dec_lt, ℕ_discrete}
use native.Mathlib.Omega.{arith}
use Rattle.std.proofs.Math.Dec.{eqb, ltb}
use Rattle.std.proofs.Math.Seq.{get_or-append-add}
use borrow.Author.Tests.{eq-eqb, ne_eqb, lt-ltb, eqb-true, eqb-false, ltb-true}
use Rattle.algebra.specs.Generators.{Gens, pick}
use Rattle.algebra.specs.Kinds.{Kind, wide}
use Rattle.field.specs.Residue.{residues, val, val_below}
use Rattle.lists.specs.Lists.{tabulate, rows_of}
use Rattle.lists.specs.ListLaws.{clash, get_d_skip, length_rows, get_d_rows, first_with, none_with}
use Rattle.table.specs.Words.{Table, Room, Used, used, full, kinds, block_size, width, place, blocks, word_of, row_gens, gens, row_words_of, table_words}
use Rattle.table.specs.Words.{table_word}
use Rattle.table.specs.RowFile.{file_word, byte_of, bytes_of, file_bytes, head_p, head_n, head_r, head_s, record_at_of, met, file_row_word, file_gens, read_w, words_of_file}
use Rattle.table.specs.RowFile.{write_w, broken, first_broken_of, first_bad_in_file, ChainWrong, HasBadInFile}
use Rattle.table.proofs.WordLaws.{row_length, row_same, row_again, rows_first, rows_none, rows_below, place_lt, room}

-- The meaning of the refusals of a file: the first row where its chain is wrong, and the first with a word that is P or more.
module _ (f : List ℕ) where
  chain_tells : (k : ℕ) → k < suc (head_n f) → (broken f k ≡ true) ↔ ChainWrong f k
  unfolding broken
  chain_tells k h = (there (eqb k (head_n f)) (eqb (met f k) 0) (ltb (head_n f) (met f k)) refl refl refl, back)
    where
      there : (a b c : Bool) → eqb k (head_n f) ≡ a → eqb (met f k) 0 ≡ b → ltb (head_n f) (met f k) ≡ c → pick a (not b) (b || c) ≡ true → ChainWrong f k
      there true true c x y z e = clash (sym e)
      there true false c x y z e = inr (eqb-true k _ x, eqb-false _ 0 y)
      there false true c x y z e = let n : k ≢ head_n f = eqb-false k _ x in inl (omega arith, inr (eqb-true _ 0 y))
      there false false true x y z e = let n : k ≢ head_n f = eqb-false k _ x in inl (omega arith, inl (ltb-true _ _ z))
      there false false false x y z e = clash (sym e)

      back : ChainWrong f k → pick (eqb k (head_n f)) (not (eqb (met f k) 0)) (eqb (met f k) 0 || ltb (head_n f) (met f k)) ≡ true
      back (inl (l, inl g)) = rw (ne_eqb k (head_n f) (λ e. omega arith), ne_eqb (met f k) 0 (λ e. omega arith), lt-ltb (head_n f) (met f k) g)
      back (inl (l, inr e)) = rw (ne_eqb k (head_n f) (λ e. omega arith), eq-eqb (met f k) 0 e)
      back (inr (e, n)) = rw (eq-eqb k (head_n f) e, ne_eqb (met f k) 0 n)

  chain_within : (k : ℕ) → ChainWrong f k → k < suc (head_n f)
  chain_within k (inl z) = omega (arith, z.0)
  chain_within k (inr z) = omega (arith, z.0)

  pub chain_first : (k : ℕ) → (first_broken_of f ≡ suc k) ↔ (ChainWrong f k × ((m : ℕ) → m < k → ChainWrong f m → ⊥))
  unfolding first_broken_of
  chain_first = first_with (suc (head_n f)) (broken f) (ChainWrong f) chain_tells chain_within

  pub chain_none : (first_broken_of f ≡ 0) ↔ ((k : ℕ) → ChainWrong f k → ⊥)
  unfolding first_broken_of
  chain_none = none_with (suc (head_n f)) (broken f) (ChainWrong f) chain_tells chain_within

  pub file_bad_first : (k : ℕ) → (first_bad_in_file f ≡ suc k) ↔ (HasBadInFile f k × ((m : ℕ) → m < k → HasBadInFile f m → ⊥))
  unfolding first_bad_in_file
  file_bad_first = rows_first (head_p f) (head_n f) (head_r f) (head_s f) (file_row_word f)

  pub file_bad_none : (first_bad_in_file f ≡ 0) ↔ ((k : ℕ) → HasBadInFile f k → ⊥)
  unfolding first_bad_in_file
  file_bad_none = rows_none (head_p f) (head_n f) (head_r f) (head_s f) (file_row_word f)

  pub file_words_below : (first_bad_in_file f ≡ 0) ↔ ((k : ℕ) (κ : Kind) (i j : ℕ) → Used (head_n f) (head_r f) (head_s f) k κ i j → file_row_word f k κ i j < head_p f)
  unfolding first_bad_in_file
  file_words_below = rows_below (head_p f) (head_n f) (head_r f) (head_s f) (file_row_word f)

  -- a chain is right that meets records of the file, then ends; and each right one does
  pub is_right : ((k : ℕ) → k < head_n f → (1 ≤ met f k) × (met f k ≤ head_n f)) → met f (head_n f) ≡ 0 → first_broken_of f ≡ 0
  is_right inside end = chain_none.1 wrong
    where
      wrong : (k : ℕ) → ChainWrong f k → ⊥
      wrong k (inl (h, inl l)) = omega (arith, inside k h)
      wrong k (inl (h, inr e)) = omega (arith, inside k h)
      wrong k (inr (e, n)) = n (ap (met f) e ∙ end)

  module _ (right : first_broken_of f ≡ 0) where
    pub right_met : (k : ℕ) → k < head_n f → (1 ≤ met f k) × (met f k ≤ head_n f)
    right_met k h =
        let a : met f k ≢ 0 = λ e. chain_none.0 right k (inl (h, inr e)) in
        let b : head_n f < met f k → ⊥ = λ l. chain_none.0 right k (inl (h, inl l)) in
        (omega arith, omega arith)

    pub right_end : met f (head_n f) ≡ 0
    right_end = dec→stable (ℕ_discrete (met f (head_n f)) 0) (λ n. chain_none.0 right (head_n f) (inr (refl, n)))

four : (x : ℕ) → x < 4294967296 → x % 256 + 256 * (x / 256 % 256) + 65536 * (x / 256 / 256 % 256) + 16777216 * (x / 256 / 256 / 256 % 256) ≡ x
four x h = omega arith

pub word_bytes : (ws : List ℕ) (i : ℕ) → get_or ws i 0 < 4294967296 → file_word (bytes_of ws) i ≡ get_or ws i 0
word_bytes [] i h = refl
word_bytes (x ∷ xs) zero h = four x h
word_bytes (x ∷ xs) (suc i) h =
    let e0 : 4 * suc i ≡ 4 + 4 * i = omega arith in
    let e1 : 4 + 4 * i + 1 ≡ 4 + (4 * i + 1) = omega arith in
    let e2 : 4 + 4 * i + 2 ≡ 4 + (4 * i + 2) = omega arith in
    let e3 : 4 + 4 * i + 3 ≡ 4 + (4 * i + 3) = omega arith in
    rw (
      e0,
      e1,
      e2,
      e3,
      get_d_skip 4 (byte_of x) (bytes_of xs) (4 * i),
      get_d_skip 4 (byte_of x) (bytes_of xs) (4 * i + 1),
      get_d_skip 4 (byte_of x) (bytes_of xs) (4 * i + 2),
      get_d_skip 4 (byte_of x) (bytes_of xs) (4 * i + 3),
    ) (word_bytes xs i h)

pub length_bytes : (ws : List ℕ) → length (bytes_of ws) ≡ 4 * length ws
length_bytes [] = refl
length_bytes (x ∷ xs) = simp length-append (omega (arith, length_bytes xs))

-- every word is below b
abbrev pub Below : ℕ → List ℕ → Type 0
Below b ws = (i : ℕ) → get_or ws i 0 < b

module _ (b : ℕ) (pos : 0 < b) where
  pub below_nil : Below b []
  below_nil i = pos

  pub below_cons : (x : ℕ) (xs : List ℕ) → x < b → Below b xs → Below b (x ∷ xs)
  below_cons x xs h t zero = h
  below_cons x xs h t (suc i) = t i

  pub below_append : (xs ys : List ℕ) → Below b xs → Below b ys → Below b (xs ++ ys)
  below_append [] ys h t = t
  below_append (x ∷ xs) ys h t = below_cons x (xs ++ ys) (h 0) (below_append xs ys (λ i. h (suc i)) t)

  pub below_tabulate : (n : ℕ) (f : ℕ → ℕ) → ((i : ℕ) → f i < b) → Below b (tabulate n f)
  below_tabulate zero f h = below_nil
  below_tabulate (suc n) f h = below_cons (f 0) (tabulate n (λ i. f (suc i))) (h 0) (below_tabulate n (λ i. f (suc i)) (λ i. h (suc i)))

  pub below_rows : (n : ℕ) (g : ℕ → List ℕ) → ((k : ℕ) → k < n → Below b (g k)) → Below b (rows_of n g)
  below_rows zero g h = below_nil
  below_rows (suc n) g h = below_append (rows_of n g) (g n) (below_rows n g (λ k l. h k (omega arith))) (h n (omega arith))

-- bytes are below 256
byte_below : (x b : ℕ) → byte_of x b < 256
byte_below x zero = omega arith
byte_below x (suc b) = byte_below (x / 256) b

pub bytes_below : (ws : List ℕ) → Below 256 (bytes_of ws)
bytes_below [] = below_nil 256 (omega arith)
bytes_below (x ∷ xs) = below_append 256 (omega arith) (tabulate 4 (byte_of x)) (bytes_of xs) (below_tabulate 256 (omega arith) 4 (byte_of x) (byte_below x))
    (bytes_below xs)

-- a written row's words are below P
module _ (P N r s k : ℕ) (c : Gens (residues P)) (pos : 0 < P) where
  word_below : (b : Bool) (x : (residues P).car) → pick b (val P x) 0 < P
  word_below true x = val_below P pos x
  word_below false x = pos

  blocks_below : (κs : List Kind) → Below P (blocks r s (word_of P N r s k c) κs)
  blocks_below [] = below_nil P pos
  blocks_below (κ ∷ κs) = below_append P pos (tabulate (block_size r s κ) (λ e. word_of P N r s k c κ (e / wide (full r s) κ) (e % wide (full r s) κ)))
      (blocks r s (word_of P N r s k c) κs)
      (below_tabulate P pos (block_size r s κ) _ (λ e. word_below (used N r s k κ (e / wide (full r s) κ) (e % wide (full r s) κ)) _)) (blocks_below κs)

  pub row_below : Below P (row_words_of P N r s k c)
  unfolding row_words_of
  row_below = blocks_below kinds

module _ (P N : ℕ) (A : Table) (pos : 0 < P) (fit_p : P < 4294967296) (fit_n : N < 4294967295) (fit_r : A.lower < 4294967296) (fit_s : A.upper < 4294967296) where
  -- the word "next" of record k, and the record
  abbrev pub next : ℕ → ℕ
  next k = pick (eqb (suc k) N) 0 (suc (suc k))

  abbrev pub rec : ℕ → List ℕ
  rec k = next k ∷ row_words_of P N A.lower A.upper k (gens P N A k)

  abbrev head5 : List ℕ
  head5 = P ∷ N ∷ A.lower ∷ A.upper ∷ 1 ∷ []

  small_next : (k : ℕ) → k < N → next k < 4294967296
  small_next k h = go (eqb (suc k) N)
    where
      go : (b : Bool) → pick b 0 (suc (suc k)) < 4294967296
      go true = omega arith
      go false = omega arith

  four_pos : 0 < 4294967296
  four_pos = omega arith

  row_small : (k : ℕ) → Below 4294967296 (row_words_of P N A.lower A.upper k (gens P N A k))
  row_small k i = omega (arith, row_below P N A.lower A.upper k (gens P N A k) pos i)

  file_below : Below 4294967296 (words_of_file P N A)
  unfolding words_of_file
  file_below = below_append 4294967296 four_pos head5 (rows_of N rec)
      (below_cons 4294967296 four_pos P (N ∷ A.lower ∷ A.upper ∷ 1 ∷ []) fit_p
      (below_cons 4294967296 four_pos N (A.lower ∷ A.upper ∷ 1 ∷ []) (omega arith)
      (below_cons 4294967296 four_pos A.lower (A.upper ∷ 1 ∷ []) fit_r
      (below_cons 4294967296 four_pos A.upper (1 ∷ []) fit_s (below_cons 4294967296 four_pos 1 [] (omega arith) (below_nil 4294967296 four_pos))))))
      (below_rows 4294967296 four_pos N rec (λ k h. below_cons 4294967296 four_pos (next k) (row_words_of P N A.lower A.upper k (gens P N A k))
      (small_next k h) (row_small k)))

  abbrev F : List ℕ
  F = write_w P N A

  pub word_is : (i : ℕ) → file_word F i ≡ get_or (words_of_file P N A) i 0
  unfolding write_w
  word_is i = word_bytes (words_of_file P N A) i (file_below i)

  pub rec_length : (k : ℕ) → length (rec k) ≡ 1 + width A.lower A.upper
  rec_length k = ap suc (row_length P N A.lower A.upper k (gens P N A k)) ∙ omega arith

  rec_word : (k o : ℕ) → k < N → o < 1 + width A.lower A.upper → file_word F (5 + (k * (1 + width A.lower A.upper) + o)) ≡ get_or (rec k) o 0
  unfolding words_of_file
  rec_word k o h l = word_is _ ∙ get_or-append-add head5 (rows_of N rec) _ 0 ∙ get_d_rows rec (1 + width A.lower A.upper) rec_length N k o h l

  pub head_P : head_p F ≡ P
  unfolding words_of_file
  head_P = rw (word_is 0, ne_eqb P 0 (λ e. omega arith))

  pub head_N : head_n F ≡ N
  unfolding words_of_file
  head_N = word_is 1

  pub head_R : head_r F ≡ A.lower
  unfolding words_of_file
  head_R = word_is 2

  pub head_S : head_s F ≡ A.upper
  unfolding words_of_file
  head_S = word_is 3

  record_is : (k : ℕ) → record_at_of F (suc k) ≡ 5 + k * (1 + width A.lower A.upper)
  record_is k = ap₂ (λ (x y : ℕ). 5 + (suc k - 1) * (1 + width x y)) head_R head_S ∙ ap (λ (m : ℕ). 5 + m * (1 + width A.lower A.upper)) e
    where
      e : suc k - 1 ≡ k
      e = omega arith

  next_is : (k : ℕ) → k < N → file_word F (record_at_of F (suc k)) ≡ next k
  next_is k h = ap (file_word F) (record_is k ∙ z) ∙ rec_word k 0 h (omega arith)
    where
      z : 5 + k * (1 + width A.lower A.upper) ≡ 5 + (k * (1 + width A.lower A.upper) + 0)
      z = omega arith

  -- the chain goes through the records in their order, and ends
  pub met_is : (k : ℕ) → k < N → met F k ≡ suc k
  unfolding met words_of_file
  met_is zero h = word_is 4
  met_is (suc k) h = ap (λ (m : ℕ). file_word F (record_at_of F m)) (met_is k (omega arith)) ∙ next_is k (omega arith) ∙ rw (ne_eqb (suc k) N (λ e. omega arith))

  pub met_end : (k : ℕ) → suc k ≡ N → met F N ≡ 0
  unfolding met
  met_end k e = ap (met F) (sym e) ∙ ap (λ (m : ℕ). file_word F (record_at_of F m)) (met_is k (omega arith)) ∙ next_is k (omega arith) ∙ rw (eq-eqb (suc k) N e)

  file_word_lem : (k o : ℕ) → k < N → o < width A.lower A.upper → file_word F (record_at_of F (met F k) + (1 + o))
      ≡ get_or (row_words_of P N A.lower A.upper k (gens P N A k)) o 0
  file_word_lem k o h l = ap (λ (m : ℕ). file_word F (record_at_of F m + (1 + o))) (met_is k h) ∙ ap (file_word F) (ap (λ (m : ℕ). m + (1 + o)) (record_is k) ∙ z)
      ∙ rec_word k (1 + o) h (omega arith) ∙ q
    where
      z : 5 + k * (1 + width A.lower A.upper) + (1 + o) ≡ 5 + (k * (1 + width A.lower A.upper) + (1 + o))
      z = omega arith

      q : get_or (rec k) (1 + o) 0 ≡ get_or (row_words_of P N A.lower A.upper k (gens P N A k)) o 0
      q = let e : 1 + o ≡ suc o = omega arith in rw e

  pub file_row : (k : ℕ) (κ : Kind) (i j : ℕ) → k < N → Room A.lower A.upper κ i j
      → file_row_word F k κ i j ≡ get_or (row_words_of P N A.lower A.upper k (gens P N A k)) (place A.lower A.upper κ i j) 0
  file_row k κ i j h l = ap₂ (λ (x y : ℕ). file_word F (record_at_of F (met F k) + (1 + place x y κ i j))) head_R head_S
      ∙ file_word_lem k (place A.lower A.upper κ i j) h (place_lt A.lower A.upper κ i j l)

module _ (P N : ℕ) (A : Table) (pos : 0 < P) (fit_p : P < 4294967296) (fit_n : N < 4294967295) (fit_r : A.lower < 4294967296) (fit_s : A.upper < 4294967296) where
  -- the file reads back as the table, with the idle words zero
  pub file_reads_back : read_w (write_w P N A) ≡ table_words P N A.lower A.upper (gens P N A)
  unfolding read_w file_gens gens
  file_reads_back =
      ap₂ (λ (p n : ℕ). G p n (head_r F') (head_s F')) (head_P P N A pos fit_p fit_n fit_r fit_s) (head_N P N A pos fit_p fit_n fit_r fit_s)
      ∙ ap₂ (λ (x y : ℕ). G P N x y) (head_R P N A pos fit_p fit_n fit_r fit_s) (head_S P N A pos fit_p fit_n fit_r fit_s)
      ∙ ap (table_words P N A.lower A.upper) (fun_ext (λ k. row k (dec_lt k N)))
    where
      F' : List ℕ
      F' = write_w P N A

      row : (k : ℕ) → Dec (k < N) → row_gens P N A.lower A.upper k (file_row_word F' k) ≡ row_gens P N A.lower A.upper k (table_word A k)
      row k (yes h) = row_again P N A.lower A.upper k (table_word A k) (file_row_word F' k) (λ κ i j l. file_row P N A pos fit_p fit_n fit_r fit_s k κ i j h l)
      row k (no n) = row_same P N A.lower A.upper k _ _ (λ κ i j u. absurd (n u.0))

      G : ℕ → ℕ → ℕ → ℕ → List ℕ
      G p n x y = table_words p n x y (λ k. row_gens p n x y k (file_row_word F' k))

module _ (P N : ℕ) (A : Table) (pos : 0 < P) (fit_p : P < 4294967296) (fit_n : N < 4294967295) (fit_r : A.lower < 4294967296) (fit_s : A.upper < 4294967296) where
  abbrev W : List ℕ
  W = write_w P N A

  pub file_length : length W ≡ file_bytes N A.lower A.upper
  unfolding write_w words_of_file
  file_length = length_bytes (words_of_file P N A)
      ∙ ap (λ (n : ℕ). 4 * n) (length-append (P ∷ N ∷ A.lower ∷ A.upper ∷ 1 ∷ []) (rows_of N (rec P N A pos fit_p fit_n fit_r fit_s)))
      ∙ ap (λ (n : ℕ). 4 * (5 + n)) (length_rows (rec P N A pos fit_p fit_n fit_r fit_s) (1 + width A.lower A.upper)
      (rec_length P N A pos fit_p fit_n fit_r fit_s) N)

  module _ (rows : 0 < N) where
    pub chain_right : first_broken_of W ≡ 0
    chain_right = is_right W inside (ap (met W) (head_N P N A pos fit_p fit_n fit_r fit_s) ∙ met_end P N A pos fit_p fit_n fit_r fit_s (N - 1) (omega arith))
      where
        inside : (k : ℕ) → k < head_n W → (1 ≤ met W k) × (met W k ≤ head_n W)
        inside k h = let n = head_N P N A pos fit_p fit_n fit_r fit_s in let e = met_is P N A pos fit_p fit_n fit_r fit_s k (omega arith) in (omega arith, omega arith)

    pub words_right : first_bad_in_file W ≡ 0
    words_right = (file_bad_none W).1
        (λ k z. fine k z.0 z.1 z.2
        (rw (head_N P N A pos fit_p fit_n fit_r fit_s, head_R P N A pos fit_p fit_n fit_r fit_s, head_S P N A pos fit_p fit_n fit_r fit_s) at z.3) z.4)
      where
        fine : (k : ℕ) (κ : Kind) (i j : ℕ) → Used N A.lower A.upper k κ i j → head_p W ≤ file_row_word W k κ i j → ⊥
        fine k κ i j u l = omega (
          arith,
          head_P P N A pos fit_p fit_n fit_r fit_s,
          file_row P N A pos fit_p fit_n fit_r fit_s k κ i j u.0 (room N A.lower A.upper k κ i j u),
          row_below P N A.lower A.upper k (gens P N A k) pos (place A.lower A.upper κ i j),
        )
