-- The three undertakings, as statements about the calls that Calls.antt defines, in the proposal's order. Quoted are the proposal and the scope paper.
-- Code owes the rest of undertaking 1: that each call ends, reads and writes within lengths, and yields what Calls.antt says.
-- The proofs are put together in UndertakingsProof.antt.
use Rattle.std.specs.Prelude.{false, ◌≢◌, ◌↔◌, ◌≡◌, List, [], ◌∷◌, ◌++◌, ℕ, suc, ◌+◌, ◌*◌, ◌-◌, ◌/◌, ◌%◌, ◌<◌, ◌≤◌, length, get_or, take, drop}
use Rattle.algebra.specs.Matrix.{Matrix, Same, sends, plus_m, times_m, identity, Singular, LeastSingular}
use Rattle.algebra.specs.Generators.{vs}
use Rattle.algebra.specs.Kinds.{Kind}
use Rattle.field.specs.Prime.{Prime}
use Rattle.field.specs.Residue.{residues, res, val}
use Rattle.table.specs.Words.{Table, with_words, gap, width, Used, Room, Idle, gens, table_word, table_words, matrix_of, first_bad_of, first_bad_place_of, HasBad}
use Rattle.table.specs.Words.{HasBadPlace, WordsBelow, SameUsed, SameColumn, UnusedZero}
use Rattle.table.specs.RowFile.{file_bytes, head_p, head_n, head_r, head_s, file_word, record_at_of, met, first_broken_of, ChainWrong, file_row_word, first_bad_in_file}
use Rattle.table.specs.RowFile.{HasBadInFile, file_matrix}
use Rattle.table.specs.Results.{column, first_zero_of}
use Rattle.table.specs.Replies.{Reply, Check, Accepted, accept, refuse, answer, packed, refusal_at, ladder, FirstFault, NoFault, bad_prime_of, bad_size_of}
use Rattle.table.specs.Replies.{bad_order, bad_place_of, short}
use Rattle.table.specs.Calls.{table_length, entry_checks, matrix_checks, apply_checks, transpose_checks, multiple_checks, pair_checks, solve_checks}
use Rattle.table.specs.Calls.{inverse_checks, write_checks, read_checks, entry_reply, matrix_reply, matrix_after, apply_reply, apply_after, apply_transposed_after}
use Rattle.table.specs.Calls.{transpose_reply, transpose_after, multiple_reply, multiple_after, sum_reply, sum_after, product_reply, product_after, solve_reply}
use Rattle.table.specs.Calls.{solve_after, work_after_of, inverse_reply, inverse_after, write_reply, write_after, read_reply, read_after, solve_earlier}
use Rattle.table.specs.Calls.{inverse_earlier, transpose_t, multiple_t, inverse_t, sum_t, product_t, read_t}
use Rattle.table.specs.Groupings.{Grouping, first_factor, other_factors, grouped, AllAccept}

-- 1. "Lent buffers are read and written within their lengths":
pub record Lengths (P N : ℕ) (A : Table) : Type 0 where
  pub matrix : (d : List ℕ) → length (matrix_after P N A d) ≡ length d
  pub apply : (x d : List ℕ) → length (apply_after P N A x d) ≡ length d
  pub apply_transposed : (x d : List ℕ) → length (apply_transposed_after P N A x d) ≡ length d
  pub transpose : (d : List ℕ) → length (transpose_after P N A d) ≡ length d
  pub multiple : (c : ℕ) (d : List ℕ) → length (multiple_after P N A c d) ≡ length d
  pub sum : (B : Table) (d : List ℕ) → length (sum_after P N A B d) ≡ length d
  pub product : (B : Table) (d : List ℕ) → length (product_after P N A B d) ≡ length d
  pub solve : (x v d : List ℕ) → length (solve_after P N A x v d) ≡ length d
  pub work : (x v d : List ℕ) → length (work_after_of P N A x v d) ≡ length v
  pub inverse : (d : List ℕ) → length (inverse_after P N A d) ≡ length d
  pub write : (f : List ℕ) → length (write_after P N A f) ≡ length f
  pub read : (f d : List ℕ) → length (read_after f d) ≡ length d

-- "Bad input is refused with a number from the paper's table, the buffer and the row": the causes, by their limits.
pub record Causes : Type 0 where
  pub prime : (limit P : ℕ) → (bad_prime_of limit P ≡ false) ↔ (Prime P × (P ≤ limit))
  pub size : (limit N : ℕ) → (bad_size_of limit N ≡ false) ↔ ((1 ≤ N) × (N ≤ limit))
  pub order : (limit r s : ℕ) → (bad_order limit r s ≡ false) ↔ ((r ≤ limit) × (s ≤ limit))
  pub place : (N i : ℕ) → (bad_place_of N i ≡ false) ↔ ((1 ≤ i) × (i ≤ N))
  pub short : (d : List ℕ) (n : ℕ) → (short d n ≡ false) ↔ (n ≤ length d)

-- What calls ask for. Of the numbers: "N is 1 to 1,024; [..] P is a prime, 2 to 2,147,483,647."
abbrev pub GoodNumbers : (P N : ℕ) → Type 0
GoodNumbers P N = Prime P × (P ≤ 2147483647) × (1 ≤ N) × (N ≤ 1024)

-- Of orders: "r and s are 0 to 8 each".
abbrev pub GoodOrders : (r s : ℕ) → Type 0
GoodOrders r s = (r ≤ 8) × (s ≤ 8)

-- Of a table: good orders, all of its N rows, and each used word below P.
abbrev pub GoodTable : (P N : ℕ) → Table → Type 0
GoodTable P N A = GoodOrders A.lower A.upper × (table_length N A ≤ length A.words) × WordsBelow P N A

-- Of a column: N words, each below P.
abbrev pub GoodColumn : (P N : ℕ) → List ℕ → Type 0
GoodColumn P N x = (N ≤ length x) × ((k : ℕ) → k < N → get_or x k 0 < P)

-- Of the table of solve and inverse: no leading corner is singular.
abbrev pub NoneSingular : (P N : ℕ) → Table → Type 0
NoneSingular P N A = (k : ℕ) → k ≤ N → Singular (residues P) (matrix_of P N A) k → ⊥

-- Of sum and product: two good tables, good added orders, and room for the result.
abbrev pub GoodPair : (P N : ℕ) (A B : Table) → List ℕ → Type 0
GoodPair P N A B d = GoodNumbers P N × GoodTable P N A × GoodTable P N B × GoodOrders (A.lower + B.lower) (A.upper + B.upper)
    × (N * width (A.lower + B.lower) (A.upper + B.upper) ≤ length d)

-- Of a file that is read: a good head, "length is 4(5 + N(1 + w)) bytes exactly", room for its table, a chain that is nowhere wrong, and each used
-- word below P.
abbrev pub GoodFile : (f d : List ℕ) → Type 0
GoodFile f d = (20 ≤ length f) × GoodNumbers (head_p f) (head_n f) × GoodOrders (head_r f) (head_s f) × (length f ≡ file_bytes (head_n f) (head_r f) (head_s f))
    × (head_n f * width (head_r f) (head_s f) ≤ length d)
    × ((k : ℕ) → ChainWrong f k → ⊥) × ((k : ℕ) (κ : Kind) (i j : ℕ) → Used (head_n f) (head_r f) (head_s f) k κ i j → file_row_word f k κ i j < head_p f)

-- Each call accepts exactly where all that it asks for is there; so a call that only refuses is shut out.
pub record Accepts (P N : ℕ) (A : Table) : Type 0 where
  pub entry : (i j : ℕ) → Accepted (entry_reply P N A i j) ↔ (GoodNumbers P N × GoodTable P N A × (1 ≤ i) × (i ≤ N) × (1 ≤ j) × (j ≤ N))
  pub matrix : (d : List ℕ) → Accepted (matrix_reply P N A d) ↔ (GoodNumbers P N × GoodTable P N A × (N * N ≤ length d))
  -- apply, and apply the transpose
  pub apply : (x d : List ℕ) → Accepted (apply_reply P N A x d) ↔ (GoodNumbers P N × GoodTable P N A × GoodColumn P N x × (N ≤ length d))
  pub transpose : (d : List ℕ) → Accepted (transpose_reply P N A d) ↔ (GoodNumbers P N × GoodTable P N A × (table_length N A ≤ length d))
  pub multiple : (c : ℕ) (d : List ℕ) → Accepted (multiple_reply P N A c d) ↔ (GoodNumbers P N × GoodTable P N A × (c < P) × (table_length N A ≤ length d))
  pub sum : (B : Table) (d : List ℕ) → Accepted (sum_reply P N A B d) ↔ GoodPair P N A B d
  pub product : (B : Table) (d : List ℕ) → Accepted (product_reply P N A B d) ↔ GoodPair P N A B d
  pub solve : (x v d : List ℕ) → Accepted (solve_reply P N A x v d)
      ↔ (GoodNumbers P N × GoodTable P N A × GoodColumn P N x × (N * A.upper ≤ length v) × (N ≤ length d) × NoneSingular P N A)
  pub inverse : (d : List ℕ) → Accepted (inverse_reply P N A d) ↔ (GoodNumbers P N × GoodTable P N A × (table_length N A ≤ length d) × NoneSingular P N A)
  pub write : (f : List ℕ) → Accepted (write_reply P N A f) ↔ (GoodNumbers P N × GoodTable P N A × (file_bytes N A.lower A.upper ≤ length f))
  pub read : (f d : List ℕ) → Accepted (read_reply f d) ↔ GoodFile f d

-- "Checks run in the table's order, except for reading a file", and "lowest such buffer": the refusals of each call's checks, in their order.
pub record Order (P N : ℕ) (A : Table) : Type 0 where
  pub entry : (i j : ℕ) → ladder (entry_checks P N A i j)
      ≡ refuse 1 0 0 ∷ refuse 2 0 0 ∷ refuse 3 1 0 ∷ refuse 8 0 0 ∷ refuse 4 1 0 ∷ refuse 5 1 (first_bad_of P N A) ∷ []
  pub matrix : (d : List ℕ) → ladder (matrix_checks P N A d)
      ≡ refuse 1 0 0 ∷ refuse 2 0 0 ∷ refuse 3 1 0 ∷ refuse 4 1 0 ∷ refuse 4 5 0 ∷ refuse 5 1 (first_bad_of P N A) ∷ []
  pub apply : (x d : List ℕ) → ladder (apply_checks P N A x d)
      ≡ refuse 1 0 0 ∷ refuse 2 0 0 ∷ refuse 3 1 0 ∷ refuse 4 1 0 ∷ refuse 4 3 0 ∷ refuse 4 5 0 ∷ refuse 5 1 (first_bad_of P N A)
      ∷ refuse 5 3 (first_bad_place_of P N x) ∷ []
  pub transpose : (d : List ℕ) → ladder (transpose_checks P N A d)
      ≡ refuse 1 0 0 ∷ refuse 2 0 0 ∷ refuse 3 1 0 ∷ refuse 4 1 0 ∷ refuse 4 5 0 ∷ refuse 5 1 (first_bad_of P N A) ∷ []
  pub multiple : (c : ℕ) (d : List ℕ) → ladder (multiple_checks P N A c d)
      ≡ refuse 1 0 0 ∷ refuse 2 0 0 ∷ refuse 3 1 0 ∷ refuse 4 1 0 ∷ refuse 4 5 0 ∷ refuse 5 0 0 ∷ refuse 5 1 (first_bad_of P N A) ∷ []
  -- sum and product
  pub pair : (B : Table) (d : List ℕ) → ladder (pair_checks P N A B d)
      ≡ refuse 1 0 0 ∷ refuse 2 0 0 ∷ refuse 3 1 0 ∷ refuse 3 2 0 ∷ refuse 6 0 0 ∷ refuse 4 1 0 ∷ refuse 4 2 0 ∷ refuse 4 5 0 ∷ refuse 5 1 (first_bad_of P N A)
      ∷ refuse 5 2 (first_bad_of P N B) ∷ []
  pub solve : (x v d : List ℕ) → ladder (solve_checks P N A x v d)
      ≡ refuse 1 0 0 ∷ refuse 2 0 0 ∷ refuse 3 1 0 ∷ refuse 4 1 0 ∷ refuse 4 3 0 ∷ refuse 4 4 0 ∷ refuse 4 5 0 ∷ refuse 5 1 (first_bad_of P N A)
      ∷ refuse 5 3 (first_bad_place_of P N x) ∷ refuse 7 1 (first_zero_of P N A) ∷ []
  pub inverse : (d : List ℕ) → ladder (inverse_checks P N A d)
      ≡ refuse 1 0 0 ∷ refuse 2 0 0 ∷ refuse 3 1 0 ∷ refuse 4 1 0 ∷ refuse 4 5 0 ∷ refuse 5 1 (first_bad_of P N A) ∷ refuse 7 1 (first_zero_of P N A) ∷ []
  pub write : (f : List ℕ) → ladder (write_checks P N A f)
      ≡ refuse 1 0 0 ∷ refuse 2 0 0 ∷ refuse 3 1 0 ∷ refuse 4 1 0 ∷ refuse 4 6 0 ∷ refuse 5 1 (first_bad_of P N A) ∷ []
  pub read : (f d : List ℕ) → ladder (read_checks f d)
      ≡ refuse 9 6 0 ∷ refuse 1 0 0 ∷ refuse 2 0 0 ∷ refuse 3 6 0 ∷ refuse 9 6 0 ∷ refuse 4 5 0 ∷ refuse 10 6 (first_broken_of f - 1)
      ∷ refuse 5 6 (first_bad_in_file f) ∷ []

-- "Each refusal is given where its cause holds and no earlier one does, and nowhere else."
pub record Refused : Type 0 where
  pub given : (cs : List Check) (v : Reply) (n : ℕ) → FirstFault cs n → answer cs v ≡ refusal_at cs n
  pub nowhere_else : (cs : List Check) (v : Reply) → Accepted v → (answer cs v).number ≢ 0 → (n : ℕ) × FirstFault cs n × (answer cs v ≡ refusal_at cs n)
  pub without_fault : (cs : List Check) (v : Reply) → NoFault cs → answer cs v ≡ v
  -- the row of a bad word is the first with one
  pub first_bad_lem : (P N : ℕ) (A : Table) (k : ℕ) → (first_bad_of P N A ≡ suc k) ↔ (HasBad P N A k × ((m : ℕ) → m < k → HasBad P N A m → ⊥))
  pub none_bad : (P N : ℕ) (A : Table) → (first_bad_of P N A ≡ 0) ↔ ((k : ℕ) → HasBad P N A k → ⊥)
  pub first_bad_place_lem : (P N : ℕ) (x : List ℕ) (k : ℕ) → (first_bad_place_of P N x ≡ suc k) ↔ (HasBadPlace P N x k × ((m : ℕ) → m < k → HasBadPlace P N x m → ⊥))
  pub none_bad_place : (P N : ℕ) (x : List ℕ) → (first_bad_place_of P N x ≡ 0) ↔ ((k : ℕ) → HasBadPlace P N x k → ⊥)
  pub first_bad_in_file_lem : (f : List ℕ) (k : ℕ) → (first_bad_in_file f ≡ suc k) ↔ (HasBadInFile f k × ((m : ℕ) → m < k → HasBadInFile f m → ⊥))
  pub none_bad_in_file : (f : List ℕ) → (first_bad_in_file f ≡ 0) ↔ ((k : ℕ) → HasBadInFile f k → ⊥)
  -- that of a wrong chain, "rows read so far", is the least number of rows after which it is wrong
  pub first_wrong : (f : List ℕ) (k : ℕ) → (first_broken_of f ≡ suc k) ↔ (ChainWrong f k × ((m : ℕ) → m < k → ChainWrong f m → ⊥))
  pub none_wrong : (f : List ℕ) → (first_broken_of f ≡ 0) ↔ ((k : ℕ) → ChainWrong f k → ⊥)

-- "a refusal leaves each lent buffer untouched", and "words past N·w are neither read nor written; the same goes for the surplus of every buffer":
-- a buffer that held d holds e after the reply y of a call that writes n words. The one exception is the dense solve's square on 7 (M-104):
-- table_dense/specs/DensePromises.antt.
abbrev pub Keeps : {X : Type 0} (y : Reply) (n : ℕ) (d e : List X) → Type 0
Keeps y n d e = (y.number ≢ 0 → e ≡ d) × (drop n e ≡ drop n d)

pub record Untouched (P N : ℕ) (A : Table) : Type 0 where
  pub matrix : (d : List ℕ) → Keeps (matrix_reply P N A d) (N * N) d (matrix_after P N A d)
  pub apply : (x d : List ℕ) → Keeps (apply_reply P N A x d) N d (apply_after P N A x d)
  pub apply_transposed : (x d : List ℕ) → Keeps (apply_reply P N A x d) N d (apply_transposed_after P N A x d)
  pub transpose : (d : List ℕ) → Keeps (transpose_reply P N A d) (table_length N A) d (transpose_after P N A d)
  pub multiple : (c : ℕ) (d : List ℕ) → Keeps (multiple_reply P N A c d) (table_length N A) d (multiple_after P N A c d)
  pub sum : (B : Table) (d : List ℕ) → Keeps (sum_reply P N A B d) (N * width (A.lower + B.lower) (A.upper + B.upper)) d (sum_after P N A B d)
  pub product : (B : Table) (d : List ℕ) → Keeps (product_reply P N A B d) (N * width (A.lower + B.lower) (A.upper + B.upper)) d (product_after P N A B d)
  pub solve : (x v d : List ℕ) → Keeps (solve_reply P N A x v d) N d (solve_after P N A x v d)
  pub work : (x v d : List ℕ) → Keeps (solve_reply P N A x v d) (N * A.upper) v (work_after_of P N A x v d)
  pub inverse : (d : List ℕ) → Keeps (inverse_reply P N A d) (table_length N A) d (inverse_after P N A d)
  pub write : (f : List ℕ) → Keeps (write_reply P N A f) (file_bytes N A.lower A.upper) f (write_after P N A f)
  pub read : (f d : List ℕ) → Keeps (read_reply f d) (head_n f * width (head_r f) (head_s f)) d (read_after f d)

-- "a number (0 accepted, with 0, 0), a buffer and a row, and a value: the residue for an entry, P for reading a file, else 0"; the entry is in Agrees
pub record Values (P N : ℕ) (A : Table) : Type 0 where
  pub matrix : (d : List ℕ) → Accepted (matrix_reply P N A d) → matrix_reply P N A d ≡ accept 0
  pub apply : (x d : List ℕ) → Accepted (apply_reply P N A x d) → apply_reply P N A x d ≡ accept 0
  pub transpose : (d : List ℕ) → Accepted (transpose_reply P N A d) → transpose_reply P N A d ≡ accept 0
  pub multiple : (c : ℕ) (d : List ℕ) → Accepted (multiple_reply P N A c d) → multiple_reply P N A c d ≡ accept 0
  pub sum : (B : Table) (d : List ℕ) → Accepted (sum_reply P N A B d) → sum_reply P N A B d ≡ accept 0
  pub product : (B : Table) (d : List ℕ) → Accepted (product_reply P N A B d) → product_reply P N A B d ≡ accept 0
  pub solve : (x v d : List ℕ) → Accepted (solve_reply P N A x v d) → solve_reply P N A x v d ≡ accept 0
  pub inverse : (d : List ℕ) → Accepted (inverse_reply P N A d) → inverse_reply P N A d ≡ accept 0
  pub write : (f : List ℕ) → Accepted (write_reply P N A f) → write_reply P N A f ≡ accept 0
  pub read : (f d : List ℕ) → Accepted (read_reply f d) → read_reply f d ≡ accept (head_p f)

-- "From C the reply is one 64-bit number", from which its parts come back.
pub record Packed (y : Reply) : Type 0 where
  pub small : packed y < 18446744073709551616
  pub number : packed y % 256 ≡ y.number
  pub buffer : packed y / 256 % 256 ≡ y.buffer
  pub row : packed y / 65536 % 65536 ≡ y.row
  pub value : packed y / 4294967296 ≡ y.value

pub record PackedReplies (P N : ℕ) (A : Table) : Type 0 where
  pub entry : (i j : ℕ) → Packed (entry_reply P N A i j)
  pub matrix : (d : List ℕ) → Packed (matrix_reply P N A d)
  pub apply : (x d : List ℕ) → Packed (apply_reply P N A x d)
  pub transpose : (d : List ℕ) → Packed (transpose_reply P N A d)
  pub multiple : (c : ℕ) (d : List ℕ) → Packed (multiple_reply P N A c d)
  pub sum : (B : Table) (d : List ℕ) → Packed (sum_reply P N A B d)
  pub product : (B : Table) (d : List ℕ) → Packed (product_reply P N A B d)
  pub solve : (x v d : List ℕ) → Packed (solve_reply P N A x v d)
  pub inverse : (d : List ℕ) → Packed (inverse_reply P N A d)
  pub write : (f : List ℕ) → Packed (write_reply P N A f)
  pub read : (f d : List ℕ) → Packed (read_reply f d)

-- 2. "Every entry read, column applied and table written agrees with the generator definition"
pub record Agrees (P N : ℕ) (A : Table) : Type 0 where
  pub entry : (i j : ℕ) → Accepted (entry_reply P N A i j) → entry_reply P N A i j ≡ accept (val P (matrix_of P N A (i - 1) (j - 1)))
  pub whole : (d : List ℕ) → Accepted (matrix_reply P N A d) → (i j : ℕ) → i < N → j < N → get_or (matrix_after P N A d) (i * N + j) 0 ≡ val P (matrix_of P N A i j)
  pub apply : (x d : List ℕ) → Accepted (apply_reply P N A x d) → (k : ℕ) → k < N
      → get_or (apply_after P N A x d) k 0 ≡ val P (sends (residues P) N (matrix_of P N A) (column P x) k)
  pub apply_transposed : (x d : List ℕ) → Accepted (apply_reply P N A x d) → (k : ℕ) → k < N
      → get_or (apply_transposed_after P N A x d) k 0 ≡ val P (sends (residues P) N (λ i j. matrix_of P N A j i) (column P x) k)
  pub multiple : (c : ℕ) (d : List ℕ) → Accepted (multiple_reply P N A c d)
      → Same (residues P) N (matrix_of P N (multiple_t P N A c d)) (λ i j. (residues P).mul (res P c) (matrix_of P N A i j))
  pub transpose : (d : List ℕ) → Accepted (transpose_reply P N A d) → Same (residues P) N (matrix_of P N (transpose_t P N A d)) (λ i j. matrix_of P N A j i)
  -- the work buffer of solve holds v of the rows but the last, then zeros
  pub work : (x v d : List ℕ) → Accepted (solve_reply P N A x v d) → (k j : ℕ) → suc k < N → j < A.upper
      → get_or (work_after_of P N A x v d) (k * A.upper + j) 0 ≡ val P (vs (gap N A.lower) (gap N A.upper) (gens P N A) k j)
  pub work_end : (x v d : List ℕ) → Accepted (solve_reply P N A x v d) → (j : ℕ) → j < A.upper → get_or (work_after_of P N A x v d) ((N - 1) * A.upper + j) 0 ≡ 0

-- "Never used, called idle: p, a, b, h of row 1, and a, q, g, b of row N."
abbrev pub IdleUnused : Type 0
IdleUnused = (N r s k : ℕ) (κ : Kind) (i j : ℕ) → k < N → Room r s κ i j → Used N r s k κ i j ↔ (Idle N k κ → ⊥)

-- "The unused generators of the end rows influence nothing", nor does what lies past the N rows:
pub record Uninfluenced (P N : ℕ) (A A' : Table) : Type 0 where
  pub matrix : matrix_of P N A ≡ matrix_of P N A'
  pub entry : (i j : ℕ) → entry_reply P N A i j ≡ entry_reply P N A' i j
  pub whole : (d : List ℕ) → (matrix_reply P N A d ≡ matrix_reply P N A' d) × (matrix_after P N A d ≡ matrix_after P N A' d)
  pub apply : (x d : List ℕ) → (apply_reply P N A x d ≡ apply_reply P N A' x d) × (apply_after P N A x d ≡ apply_after P N A' x d)
      × (apply_transposed_after P N A x d ≡ apply_transposed_after P N A' x d)
  pub transpose : (d : List ℕ) → (transpose_reply P N A d ≡ transpose_reply P N A' d) × (transpose_after P N A d ≡ transpose_after P N A' d)
  pub multiple : (c : ℕ) (d : List ℕ) → (multiple_reply P N A c d ≡ multiple_reply P N A' c d) × (multiple_after P N A c d ≡ multiple_after P N A' c d)
  pub sum_left : (B : Table) (d : List ℕ) → (sum_reply P N A B d ≡ sum_reply P N A' B d) × (sum_after P N A B d ≡ sum_after P N A' B d)
  pub sum_right : (B : Table) (d : List ℕ) → (sum_reply P N B A d ≡ sum_reply P N B A' d) × (sum_after P N B A d ≡ sum_after P N B A' d)
  pub product_left : (B : Table) (d : List ℕ) → (product_reply P N A B d ≡ product_reply P N A' B d) × (product_after P N A B d ≡ product_after P N A' B d)
  pub product_right : (B : Table) (d : List ℕ) → (product_reply P N B A d ≡ product_reply P N B A' d) × (product_after P N B A d ≡ product_after P N B A' d)
  pub solve : (x v d : List ℕ) → (solve_reply P N A x v d ≡ solve_reply P N A' x v d) × (solve_after P N A x v d ≡ solve_after P N A' x v d)
      × (work_after_of P N A x v d ≡ work_after_of P N A' x v d)
  pub inverse : (d : List ℕ) → (inverse_reply P N A d ≡ inverse_reply P N A' d) × (inverse_after P N A d ≡ inverse_after P N A' d)
  pub write : (f : List ℕ) → (write_reply P N A f ≡ write_reply P N A' f) × (write_after P N A f ≡ write_after P N A' f)

-- of two tables with the same used words, and alike in being long enough; and of two columns likewise
abbrev pub UnusedInfluenceNothing : Type 0
UnusedInfluenceNothing = (P N : ℕ) (A : Table) (t : List ℕ) → SameUsed N A t → short A.words (table_length N A) ≡ short t (table_length N A)
    → Uninfluenced P N A (with_words A t)

pub record ColumnSurplus (P N : ℕ) (A : Table) (x x' : List ℕ) : Type 0 where
  pub apply : (d : List ℕ) → (apply_reply P N A x d ≡ apply_reply P N A x' d) × (apply_after P N A x d ≡ apply_after P N A x' d)
      × (apply_transposed_after P N A x d ≡ apply_transposed_after P N A x' d)
  pub solve : (v d : List ℕ) → (solve_reply P N A x v d ≡ solve_reply P N A x' v d) × (solve_after P N A x v d ≡ solve_after P N A x' v d)
      × (work_after_of P N A x v d ≡ work_after_of P N A x' v d)

abbrev pub SurplusInfluencesNothing : Type 0
SurplusInfluencesNothing = (P N : ℕ) (A : Table) (x x' : List ℕ) → SameColumn N x x' → short x N ≡ short x' N → ColumnSurplus P N A x x'

-- unused words are 0 in each written table, and what is written is readable again: without a bad word
abbrev pub Readable : (P N : ℕ) → Table → Type 0
Readable P N A = UnusedZero N A × (first_bad_of P N A ≡ 0)

pub record WrittenAgain (P N : ℕ) (A : Table) : Type 0 where
  pub transpose : (d : List ℕ) → Accepted (transpose_reply P N A d) → Readable P N (transpose_t P N A d)
  pub multiple : (c : ℕ) (d : List ℕ) → Accepted (multiple_reply P N A c d) → Readable P N (multiple_t P N A c d)
  pub sum : (B : Table) (d : List ℕ) → Accepted (sum_reply P N A B d) → Readable P N (sum_t P N A B d)
  pub product : (B : Table) (d : List ℕ) → Accepted (product_reply P N A B d) → Readable P N (product_t P N A B d)
  pub inverse : (d : List ℕ) → Accepted (inverse_reply P N A d) → Readable P N (inverse_t P N A d)
  pub whole : (d : List ℕ) → Accepted (matrix_reply P N A d) → (i : ℕ) → i < N * N → get_or (matrix_after P N A d) i 0 < P
  pub apply : (x d : List ℕ) → Accepted (apply_reply P N A x d) → first_bad_place_of P N (apply_after P N A x d) ≡ 0
  pub apply_transposed : (x d : List ℕ) → Accepted (apply_reply P N A x d) → first_bad_place_of P N (apply_transposed_after P N A x d) ≡ 0
  pub solve : (x v d : List ℕ) → Accepted (solve_reply P N A x v d) → first_bad_place_of P N (solve_after P N A x v d) ≡ 0

-- the file that the write call leaves in the lent f
abbrev pub file_left : (P N : ℕ) → Table → List ℕ → List ℕ
file_left P N A f = take (file_bytes N A.lower A.upper) (write_after P N A f)

-- "Writing gives P in full, first 1, records in row order, each next the number of the following record, the last 0." "Written tables and files hold 0 there."
pub record Writes (P N : ℕ) (A : Table) (file : List ℕ) : Type 0 where
  pub long : length file ≡ file_bytes N A.lower A.upper
  pub bytes : (i : ℕ) → get_or file i 0 < 256
  pub head : (file_word file 0 ≡ P) × (file_word file 1 ≡ N) × (file_word file 2 ≡ A.lower) × (file_word file 3 ≡ A.upper) × (file_word file 4 ≡ 1)
  pub chain : (k : ℕ) → k < N → met file k ≡ suc k
  pub end : met file N ≡ 0
  pub used : (k : ℕ) (κ : Kind) (i j : ℕ) → Used N A.lower A.upper k κ i j → file_row_word file k κ i j ≡ table_word A k κ i j
  pub unused : (k : ℕ) (κ : Kind) (i j : ℕ) → k < N → Room A.lower A.upper κ i j → (Used N A.lower A.upper k κ i j → ⊥)
      → file_row_word file k κ i j ≡ 0

-- "A row file written from a table reads back as that table, with the unused words zero."
pub record ReadsBack (P N : ℕ) (A : Table) (file d : List ℕ) : Type 0 where
  pub head : (head_p file ≡ P) × (head_n file ≡ N) × (head_r file ≡ A.lower) × (head_s file ≡ A.upper)
  pub accepted : read_reply file d ≡ accept P
  pub words : read_after file d ≡ table_words P N A.lower A.upper (gens P N A) ++ drop (table_length N A) d
  pub same : SameUsed N (with_words A (read_after file d)) A.words
  pub unused : UnusedZero N (with_words A (read_after file d))

abbrev pub FileReadsBack : Type 0
FileReadsBack = (P N : ℕ) (A : Table) (f d : List ℕ) → Accepted (write_reply P N A f) → table_length N A ≤ length d → ReadsBack P N A (file_left P N A f) d

-- Any accepted file: its table has the used words of its rows in the order of the chain, stands for their matrix, and is readable.
pub record ReadsFile (f d : List ℕ) : Type 0 where
  pub used : (k : ℕ) (κ : Kind) (i j : ℕ) → Used (head_n f) (head_r f) (head_s f) k κ i j → table_word (read_t f d) k κ i j ≡ file_row_word f k κ i j
  pub stands : Same (residues (head_p f)) (head_n f) (matrix_of (head_p f) (head_n f) (read_t f d)) (file_matrix f)
  pub readable : Readable (head_p f) (head_n f) (read_t f d)

-- two files alike but for the unused words of their rows
pub record SameFile (f f' : List ℕ) : Type 0 where
  pub long : length f ≡ length f'
  pub head : (i : ℕ) → i < 4 → file_word f i ≡ file_word f' i
  pub chain : (k : ℕ) → k ≤ head_n f → met f k ≡ met f' k
  pub rows : (k : ℕ) (κ : Kind) (i j : ℕ) → Used (head_n f) (head_r f) (head_s f) k κ i j → file_row_word f k κ i j ≡ file_row_word f' k κ i j

abbrev pub FileUnusedInfluenceNothing : Type 0
FileUnusedInfluenceNothing = (f f' d : List ℕ) → SameFile f f' → (read_reply f d ≡ read_reply f' d) × (read_after f d ≡ read_after f' d)

-- two files alike but for the order of their records: record m of f is record π m of f', and the chain with it
pub record Permuted (π : ℕ → ℕ) (f f' : List ℕ) : Type 0 where
  pub long : length f' ≡ length f
  pub head : (i : ℕ) → i < 4 → file_word f' i ≡ file_word f i
  pub end : π 0 ≡ 0
  pub place : (m : ℕ) → 1 ≤ m → m ≤ head_n f → (1 ≤ π m) × (π m ≤ head_n f)
  pub first : file_word f' 4 ≡ π (file_word f 4)
  pub next : (m : ℕ) → 1 ≤ m → m ≤ head_n f → file_word f' (record_at_of f' (π m)) ≡ π (file_word f (record_at_of f m))
  pub rows : (m o : ℕ) → 1 ≤ m → m ≤ head_n f → o < width (head_r f) (head_s f) → file_word f' (record_at_of f' (π m) + (1 + o)) ≡ file_word f (record_at_of f m + (1 + o))

-- "the k-th record met is row k": a file whose records are permuted with their chain reads as the same table
abbrev pub PermutedReadsSame : Type 0
PermutedReadsSame = (π : ℕ → ℕ) (f f' d : List ℕ) → Permuted π f f' → Accepted (read_reply f d)
    → (read_reply f' d ≡ read_reply f d) × (read_after f' d ≡ read_after f d)

-- 3. "A generator table obeys the algebra of the matrix it stands for. Whatever tables and columns are handed in, wherever the calls accept:"
module _ (P N : ℕ) where
  -- the matrix that a table stands for
  abbrev mat : Table → Matrix (residues P)
  mat A = matrix_of P N A

  -- two tables stand for the same matrix
  abbrev pub Alike : Table → Table → Type 0
  Alike A B = Same (residues P) N (mat A) (mat B)

  -- the sum call accepts, with the lent result d
  abbrev SumAccepts : Table → Table → List ℕ → Type 0
  SumAccepts A B d = Accepted (sum_reply P N A B d)

  -- the product call accepts, with the lent result d
  abbrev pub ProductAccepts : Table → Table → List ℕ → Type 0
  ProductAccepts A B d = Accepted (product_reply P N A B d)

  -- the apply call accepts, with the column x and the lent result d
  abbrev ApplyAccepts : Table → List ℕ → List ℕ → Type 0
  ApplyAccepts A x d = Accepted (apply_reply P N A x d)

  pub record Algebra : Type 0 where
    -- "the sum table stands for the sum, the product table for the product in that order;"
    pub sum : (A B : Table) (d : List ℕ) → SumAccepts A B d → Same (residues P) N (mat (sum_t P N A B d)) (plus_m (residues P) (mat A) (mat B))
    pub product : (A B : Table) (d : List ℕ) → ProductAccepts A B d → Same (residues P) N (mat (product_t P N A B d)) (times_m (residues P) N (mat A) (mat B))
    -- "the inverse's matrix times the table's is the identity, on either side;"
    pub inverse_left : (A : Table) (d : List ℕ) → Accepted (inverse_reply P N A d)
        → Same (residues P) N (times_m (residues P) N (mat (inverse_t P N A d)) (mat A)) (identity (residues P))
    pub inverse_right : (A : Table) (d : List ℕ) → Accepted (inverse_reply P N A d)
        → Same (residues P) N (times_m (residues P) N (mat A) (mat (inverse_t P N A d))) (identity (residues P))
    -- "applying a product gives the same column as applying the right factor, then the left;"
    pub applied : (A B : Table) (c x e f g : List ℕ) → ProductAccepts A B c → ApplyAccepts (product_t P N A B c) x e → ApplyAccepts B x f
        → ApplyAccepts A (apply_after P N B x f) g
        → SameColumn N (apply_after P N (product_t P N A B c) x e) (apply_after P N A (apply_after P N B x f) g)
    -- "for every list of factors, all groupings in that order stand for the same matrix;"
    pub groupings : (g h : Grouping) → first_factor g ≡ first_factor h → other_factors g ≡ other_factors h → AllAccept P N g → AllAccept P N h
        → Alike (grouped P N g) (grouped P N h)
    -- "and so do a product by a sum, on either side, and the sum of the products."
    pub product_by_sum : (A B C : Table) (c d e f g : List ℕ) → SumAccepts B C c → ProductAccepts A (sum_t P N B C c) d → ProductAccepts A B e
        → ProductAccepts A C f → SumAccepts (product_t P N A B e) (product_t P N A C f) g
        → Alike (product_t P N A (sum_t P N B C c) d) (sum_t P N (product_t P N A B e) (product_t P N A C f) g)
    pub sum_by_product : (A B C : Table) (c d e f g : List ℕ) → SumAccepts A B c → ProductAccepts (sum_t P N A B c) C d → ProductAccepts A C e
        → ProductAccepts B C f → SumAccepts (product_t P N A C e) (product_t P N B C f) g
        → Alike (product_t P N (sum_t P N A B c) C d) (sum_t P N (product_t P N A C e) (product_t P N B C f) g)
    -- "An accepted solve returns a column that the table sends to the given one, and every other column is sent elsewhere."
    pub solve : (A : Table) (x v d : List ℕ) → Accepted (solve_reply P N A x v d) → (k : ℕ) → k < N
        → sends (residues P) N (mat A) (column P (solve_after P N A x v d)) k ≡ column P x k
    pub solve_words_lem : (A : Table) (x v d : List ℕ) → Accepted (solve_reply P N A x v d) → (k : ℕ) → k < N
        → val P (sends (residues P) N (mat A) (column P (solve_after P N A x v d)) k) ≡ get_or x k 0
    pub solve_only : (A : Table) (x v d : List ℕ) → Accepted (solve_reply P N A x v d) → (y : ℕ → (residues P).car)
        → ((k : ℕ) → k < N → sends (residues P) N (mat A) y k ≡ column P x k) → (k : ℕ) → k < N → y k ≡ column P (solve_after P N A x v d) k
    -- "With no earlier fault of the paper's table, solve and inverse are refused as singular at row k exactly when the leading k by k corner sends
    -- some column, not all zeros, to zeros, and no smaller leading corner does."
    pub solve_singular : (A : Table) (x v d : List ℕ) → NoFault (solve_earlier P N A x v d) → (k : ℕ) → (solve_reply P N A x v d ≡ refuse 7 1 k)
        ↔ LeastSingular (residues P) N (mat A) k
    pub inverse_singular : (A : Table) (d : List ℕ) → NoFault (inverse_earlier P N A d) → (k : ℕ) → (inverse_reply P N A d ≡ refuse 7 1 k)
        ↔ LeastSingular (residues P) N (mat A) k
    -- and accepted exactly when no leading corner does
    pub solve_accepted : (A : Table) (x v d : List ℕ) → NoFault (solve_earlier P N A x v d) → Accepted (solve_reply P N A x v d) ↔ NoneSingular P N A
    pub inverse_accepted : (A : Table) (d : List ℕ) → NoFault (inverse_earlier P N A d) → Accepted (inverse_reply P N A d) ↔ NoneSingular P N A

-- The undertakings, each whole.
pub record First : Type 0 where
  pub lengths : (P N : ℕ) (A : Table) → Lengths P N A
  pub causes : Causes
  pub accepts : (P N : ℕ) (A : Table) → Accepts P N A
  pub order : (P N : ℕ) (A : Table) → Order P N A
  pub refused : Refused
  pub untouched : (P N : ℕ) (A : Table) → Untouched P N A
  pub values : (P N : ℕ) (A : Table) → Values P N A
  pub replies : (P N : ℕ) (A : Table) → PackedReplies P N A

pub record Second : Type 0 where
  pub agrees : (P N : ℕ) (A : Table) → Agrees P N A
  pub idle : IdleUnused
  pub unused : UnusedInfluenceNothing
  pub surplus : SurplusInfluencesNothing
  pub again : (P N : ℕ) (A : Table) → WrittenAgain P N A
  pub writes : (P N : ℕ) (A : Table) (f : List ℕ) → Accepted (write_reply P N A f) → Writes P N A (file_left P N A f)
  pub reads_back : FileReadsBack
  pub reads_file : (f d : List ℕ) → Accepted (read_reply f d) → ReadsFile f d
  pub file_unused : FileUnusedInfluenceNothing
  pub permuted : PermutedReadsSame

abbrev pub Third : Type 0
Third = (P N : ℕ) → Algebra P N
