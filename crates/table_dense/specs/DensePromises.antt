-- What the dense solve promises, as statements about DenseCall.antt. Quoted are the request and, of every call, the proposal and the scope paper.
-- The proofs are `promises` and `unused` in DensePromisesProof.antt.
use Rattle.std.specs.Prelude.{false, List, [], ◌∷◌, ◌++◌, ◌≢◌, ◌↔◌, ◌⊎◌, ◌≡◌, ℕ, ◌*◌, ◌<◌, ◌≤◌, length, get_or, drop}
use Rattle.algebra.specs.Matrix.{sends, Singular}
use Rattle.field.specs.Prime.{Prime}
use Rattle.field.specs.Residue.{residues, val}
use Rattle.lists.specs.Lists.{tabulate}
use Rattle.table.specs.Words.{Table, with_words, first_bad_of, first_bad_place_of, matrix_of, WordsBelow, SameUsed, SameColumn}
use Rattle.table.specs.Replies.{Accepted, accept, refuse, ladder, cause_at, short}
use Rattle.table.specs.Results.{column}
use Rattle.table.specs.Calls.{table_length, solve_reply, solve_after}
use Rattle.table.specs.Undertakings.{GoodOrders, GoodTable, GoodColumn, Keeps, Packed}
use Rattle.table_dense.specs.DenseCall.{dense_checks, dense_reply, dense_after, square_after_of}

-- "for N to 256": a prime and a size that the call takes
abbrev pub GoodSize : (P N : ℕ) → Type 0
GoodSize P N = Prime P × (P ≤ 2147483647) × (1 ≤ N) × (N ≤ 256)

-- no earlier fault: these, a good table and a good column, "a lent square of N·N words", and room for the solution
abbrev pub GoodSystem : (P N : ℕ) (A : Table) (x v d : List ℕ) → Type 0
GoodSystem P N A x v d = GoodSize P N × GoodTable P N A × GoodColumn P N x × (N * N ≤ length v) × (N ≤ length d)

-- "some column, not all zeros, is sent to zeros by the whole matrix"
abbrev pub WholeSingular : (P N : ℕ) → Table → Type 0
WholeSingular P N A = Singular (residues P) (matrix_of P N A) N

-- "Each refusal is given where its cause holds and no earlier one does, and nowhere else", as for the checks of every call (`Refused` in
-- Undertakings.antt): the causes, in their order. Check k, from 0, finds nothing wrong exactly where the following holds.
pub record DenseCauses (P N : ℕ) (A : Table) (x v d : List ℕ) (clear : ℕ → Type 0) : Type 0 where
  pub prime : clear 0 ↔ (Prime P × (P ≤ 2147483647))
  -- "N above 256 gives 2"
  pub size : clear 1 ↔ ((1 ≤ N) × (N ≤ 256))
  pub orders : clear 2 ↔ GoodOrders A.lower A.upper
  pub table_long : clear 3 ↔ (table_length N A ≤ length A.words)
  pub column_long : clear 4 ↔ (N ≤ length x)
  pub square_long : clear 5 ↔ (N * N ≤ length v)
  pub result_long : clear 6 ↔ (N ≤ length d)
  pub table_below : clear 7 ↔ WordsBelow P N A
  pub column_below : clear 8 ↔ ((k : ℕ) → k < N → get_or x k 0 < P)
  pub nonsingular : Prime P → clear 9 ↔ (WholeSingular P N A → ⊥)

pub record DensePromises (P N : ℕ) (A : Table) (x v d : List ℕ) : Type 0 where
  -- accepted exactly where all is good and the whole matrix is not singular
  pub accepts : Accepted (dense_reply P N A x v d) ↔ (GoodSystem P N A x v d × (WholeSingular P N A → ⊥))
  -- "It returns the only solution."
  pub solves : Accepted (dense_reply P N A x v d) → (k : ℕ) → k < N
      → sends (residues P) N (matrix_of P N A) (column P (dense_after P N A x v d)) k ≡ column P x k
  pub only : Accepted (dense_reply P N A x v d) → (y : ℕ → (residues P).car)
      → ((k : ℕ) → k < N → sends (residues P) N (matrix_of P N A) y k ≡ column P x k) → (k : ℕ) → k < N → y k ≡ column P (dense_after P N A x v d) k
  -- in words: those of the solution are below P, so that it may be lent as a column again, and it is sent to the words that were given
  pub again : Accepted (dense_reply P N A x v d) → first_bad_place_of P N (dense_after P N A x v d) ≡ 0
  pub solves_words : Accepted (dense_reply P N A x v d) → (k : ℕ) → k < N
      → val P (sends (residues P) N (matrix_of P N A) (column P (dense_after P N A x v d)) k) ≡ get_or x k 0
  -- "With no earlier fault it gives 7 with 1, 0 exactly when some column, not all zeros, is sent to zeros by the whole matrix."
  pub singular : (dense_reply P N A x v d ≡ refuse 7 1 0) ↔ (GoodSystem P N A x v d × WholeSingular P N A)
  -- "N above 256 gives 2."
  pub large : Prime P → P ≤ 2147483647 → 256 < N → dense_reply P N A x v d ≡ refuse 2 0 0
  -- the refusals in their order, and what each looks at
  pub order : ladder (dense_checks P N A x v d)
      ≡ refuse 1 0 0 ∷ refuse 2 0 0 ∷ refuse 3 1 0 ∷ refuse 4 1 0 ∷ refuse 4 3 0 ∷ refuse 4 4 0 ∷ refuse 4 5 0
      ∷ refuse 5 1 (first_bad_of P N A) ∷ refuse 5 3 (first_bad_place_of P N x) ∷ refuse 7 1 0 ∷ []
  pub causes : DenseCauses P N A x v d (λ k. cause_at (dense_checks P N A x v d) k ≡ false)
  -- "Once the square is in use it ends as all zeros, on 7 as well, which is the one exception to undertaking 1 and to the table's last column;
  -- every other refusal leaves it."
  pub square_zeros : ((dense_reply P N A x v d).number ≡ 0) ⊎ ((dense_reply P N A x v d).number ≡ 7)
      → square_after_of P N A x v d ≡ tabulate (N * N) (λ e. 0) ++ drop (N * N) v
  pub square_kept : (dense_reply P N A x v d).number ≢ 0 → (dense_reply P N A x v d).number ≢ 7 → square_after_of P N A x v d ≡ v
  -- "the same goes for the surplus of every buffer": words past the N·N-th are kept
  pub square_surplus : drop (N * N) (square_after_of P N A x v d) ≡ drop (N * N) v
  -- "a refusal leaves each lent buffer untouched": the result on 7 too; and words past the N-th are not written
  pub result_kept : Keeps (dense_reply P N A x v d) N d (dense_after P N A x v d)
  -- "Lent buffers are read and written within their lengths"
  pub square_length : length (square_after_of P N A x v d) ≡ length v
  pub result_length : length (dense_after P N A x v d) ≡ length d
  -- "Where both solves accept, the columns are equal", word for word;
  pub agrees : Accepted (dense_reply P N A x v d) → (w c : List ℕ) → Accepted (solve_reply P N A x w c)
      → (k : ℕ) → k < N → get_or (dense_after P N A x v d) k 0 ≡ get_or (solve_after P N A x w c) k 0
  -- and where that solve accepts, this one does, for N to 256 and with room
  pub no_worse : (w c : List ℕ) → Accepted (solve_reply P N A x w c) → N ≤ 256 → N * N ≤ length v → N ≤ length d → Accepted (dense_reply P N A x v d)
  -- words past the N-th of the column are not read
  pub surplus : (x' : List ℕ) → SameColumn N x x' → short x N ≡ short x' N
      → (dense_reply P N A x v d ≡ dense_reply P N A x' v d) × (dense_after P N A x v d ≡ dense_after P N A x' v d)
      × (square_after_of P N A x v d ≡ square_after_of P N A x' v d)
  -- what square and result held is not read: reply and solution depend on them by nothing but whether they are long enough
  pub unread : (v' d' : List ℕ) → short v (N * N) ≡ short v' (N * N) → short d N ≡ short d' N
      → (dense_reply P N A x v d ≡ dense_reply P N A x v' d')
      × (Accepted (dense_reply P N A x v d) → SameColumn N (dense_after P N A x v d) (dense_after P N A x v' d'))
  -- the value is 0, and the reply's parts come back from one number
  pub value : Accepted (dense_reply P N A x v d) → dense_reply P N A x v d ≡ accept 0
  pub packs : Packed (dense_reply P N A x v d)

-- "The unused generators of the end rows influence nothing", nor does what lies past the N rows.
abbrev pub DenseUnused : Type 0
DenseUnused = (P N : ℕ) (A : Table) (t : List ℕ) → SameUsed N A t → short A.words (table_length N A) ≡ short t (table_length N A)
    → (x v d : List ℕ) → (dense_reply P N A x v d ≡ dense_reply P N (with_words A t) x v d)
    × (dense_after P N A x v d ≡ dense_after P N (with_words A t) x v d) × (square_after_of P N A x v d ≡ square_after_of P N (with_words A t) x v d)
