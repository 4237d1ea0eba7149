-- Row files: little-endian 32-bit words, a head of five, then N records of one word "next" and a row.
use Rattle.std.specs.Prelude.{Bool, ◌||◌, not, ◌⊎◌, ◌≢◌, ◌≡◌, List, [], ◌∷◌, ◌++◌, ℕ, zero, suc, ◌+◌, ◌*◌, ◌/◌, ◌%◌, ◌-◌, ◌<◌, ◌≤◌, ltb, eqb, get_or}
use Rattle.algebra.specs.Matrix.{Matrix}
use Rattle.algebra.specs.Generators.{Gens, pick, entry_of}
use Rattle.algebra.specs.Kinds.{Kind}
use Rattle.field.specs.Residue.{residues}
use Rattle.lists.specs.Lists.{tabulate, rows_of, first_of}
use Rattle.table.specs.Limits.{house_prime}
use Rattle.table.specs.Words.{Table, gap, width, place, Used, gens, row_gens, bad_row_of, row_words_of, table_words}

-- word i of the bytes f
abbrev pub file_word : List ℕ → ℕ → ℕ
file_word f i = get_or f (4 * i) 0 + 256 * get_or f (4 * i + 1) 0 + 65536 * get_or f (4 * i + 2) 0 + 16777216 * get_or f (4 * i + 3) 0

-- byte b of a word
abbrev pub byte_of : ℕ → ℕ → ℕ
byte_of x zero = x % 256
byte_of x (suc b) = byte_of (x / 256) b

-- the bytes of words
abbrev pub bytes_of : List ℕ → List ℕ
bytes_of [] = []
bytes_of (x ∷ xs) = tabulate 4 (byte_of x) ++ bytes_of xs

abbrev pub file_bytes : (N r s : ℕ) → ℕ
file_bytes N r s = 4 * (5 + N * (1 + width r s))

-- the prime that the word in its place stands for
abbrev pub prime_of : (house word : ℕ) → ℕ
prime_of house word = pick (eqb word 0) house word

-- The head.
module _ (f : List ℕ) where
  abbrev pub head_p : ℕ
  head_p = prime_of house_prime (file_word f 0)

  abbrev pub head_n : ℕ
  head_n = file_word f 1

  abbrev pub head_r : ℕ
  head_r = file_word f 2

  abbrev pub head_s : ℕ
  head_s = file_word f 3

  -- the first word of record m, numbered from 1
  abbrev pub record_at_of : ℕ → ℕ
  record_at_of m = 5 + (m - 1) * (1 + width head_r head_s)

  -- the number of the record met after k others
  unfoldable pub met : ℕ → ℕ
  met zero = file_word f 4
  met (suc k) = file_word f (record_at_of (met k))

  -- where the chain goes wrong: after k rows there is no record of the file, or after all of them there is one more
  unfoldable pub broken : ℕ → Bool
  broken k = pick (eqb k head_n) (not (eqb (met k) 0)) (eqb (met k) 0 || ltb head_n (met k))

  -- after k rows the chain is wrong: a number above N, 0 before N rows, or not 0 after N
  abbrev pub ChainWrong : ℕ → Type 0
  ChainWrong k = ((k < head_n) × ((head_n < met k) ⊎ (met k ≡ 0))) ⊎ ((k ≡ head_n) × (met k ≢ 0))

  -- one more than the rows read before the chain goes wrong; 0 where it is right
  unfoldable pub first_broken_of : ℕ
  first_broken_of = first_of (suc head_n) broken 0

  -- a word of row k, which is the record met after k others
  abbrev pub file_row_word : ℕ → Kind → ℕ → ℕ → ℕ
  file_row_word k κ i j = file_word f (record_at_of (met k) + (1 + place head_r head_s κ i j))

  unfoldable pub file_gens : ℕ → Gens (residues head_p)
  file_gens k = row_gens head_p head_n head_r head_s k (file_row_word k)

  -- the matrix of the file's rows in the order of the chain
  unfoldable pub file_matrix : Matrix (residues head_p)
  file_matrix = entry_of (gap head_n head_r) (gap head_n head_s) file_gens

  unfoldable pub first_bad_in_file : ℕ
  first_bad_in_file = first_of head_n (λ k. bad_row_of head_p head_n head_r head_s k (file_row_word k)) 0

  -- a used word of row k of the file, in the order of the chain, is P or more
  abbrev pub HasBadInFile : ℕ → Type 0
  HasBadInFile k = (κ : Kind) × (i : ℕ) × (j : ℕ) × Used head_n head_r head_s k κ i j × (head_p ≤ file_row_word k κ i j)

  -- the table that a file is read as
  unfoldable pub read_w : List ℕ
  read_w = table_words head_p head_n head_r head_s file_gens

-- the words of the file of given generators: the head, then the records in the order of the rows
abbrev pub file_words_of : (P N r s : ℕ) → (ℕ → Gens (residues P)) → List ℕ
file_words_of P N r s c = (P ∷ N ∷ r ∷ s ∷ 1 ∷ []) ++ rows_of N (λ k. pick (eqb (suc k) N) 0 (suc (suc k)) ∷ row_words_of P N r s k (c k))

-- the words and the bytes of the file that a table is written as
unfoldable pub words_of_file : (P N : ℕ) → Table → List ℕ
words_of_file P N A = file_words_of P N A.lower A.upper (gens P N A)

unfoldable pub write_w : (P N : ℕ) → Table → List ℕ
write_w P N A = bytes_of (words_of_file P N A)
