-- What the kernel call and its check promise, as statements about KernelCall.antt. Quoted are the request and, of every call, the proposal and the scope
-- paper. The proof is `promises` in KernelPromisesProof.antt.
use Rattle.std.specs.Prelude.{false, List, [], ◌∷◌, ◌↔◌, ◌⊎◌, ◌≡◌, ℕ, ◌-◌, ◌<◌, ◌≤◌, length, get_or, drop}
use Rattle.algebra.specs.Matrix.{sends, Singular, LeastSingular}
use Rattle.field.specs.Prime.{Prime}
use Rattle.field.specs.Residue.{residues}
use Rattle.table.specs.Words.{Table, with_words, matrix_of, first_bad_of, first_bad_place_of, WordsBelow, SameUsed, SameColumn}
use Rattle.table.specs.Results.{column, first_zero_of}
use Rattle.table.specs.Replies.{Accepted, NoFault, accept, refuse, ladder, cause_at, short}
use Rattle.table.specs.Calls.{table_length, solve_earlier, solve_reply, inverse_earlier, inverse_reply}
use Rattle.table.specs.Undertakings.{GoodNumbers, GoodOrders, GoodTable, GoodColumn, NoneSingular, Keeps, Packed}
use Rattle.table_dense.specs.DenseCall.{dense_reply}
use Rattle.table_kernel.specs.KernelCall.{kernel_checks, kernel_reply, kernel_after, shows_checks, shows_reply}

-- the least singular leading corner is that of k rows, as where solve and inverse give 7 at row k;
abbrev pub ZeroPivotAt : (P N : ℕ) → Table → ℕ → Type 0
ZeroPivotAt P N A k = LeastSingular (residues P) N (matrix_of P N A) k

-- which is where "the first zero pivot is at row k" of the sweep
abbrev pub ZeroPivotSwept : Type 0
ZeroPivotSwept = (P N : ℕ) (A : Table) → Prime P → (k : ℕ) → ZeroPivotAt P N A k ↔ ((1 ≤ k) × (first_zero_of P N A ≡ k))

-- "the corner sends the first k to zeros"
abbrev pub SentToZeros : (P N : ℕ) → Table → (k : ℕ) → (ℕ → (residues P).car) → Type 0
SentToZeros P N A k y = (i : ℕ) → i < k → sends (residues P) k (matrix_of P N A) y i ≡ (residues P).zero

-- "the k-th word is 1 and the corner sends the first k to zeros"
abbrev pub Shows : (P N : ℕ) → Table → ℕ → List ℕ → Type 0
Shows P N A k x = (get_or x (k - 1) 0 ≡ 1) × SentToZeros P N A k (column P x)

-- ---- The kernel call.

-- no earlier fault: good numbers, a good table, and room: "The result has N words"
abbrev pub GoodLoan : (P N : ℕ) (A : Table) (d : List ℕ) → Type 0
GoodLoan P N A d = GoodNumbers P N × GoodTable P N A × (N ≤ length d)

-- "Each refusal is given where its cause holds and no earlier one does, and nowhere else", as for the checks of every call (`Refused` in
-- Undertakings.antt): the causes, in their order. Check k, from 0, finds nothing wrong exactly where the following holds.
pub record KernelCauses (P N : ℕ) (A : Table) (d : List ℕ) (clear : ℕ → Type 0) : Type 0 where
  pub prime : clear 0 ↔ (Prime P × (P ≤ 2147483647))
  pub size : clear 1 ↔ ((1 ≤ N) × (N ≤ 1024))
  pub orders : clear 2 ↔ GoodOrders A.lower A.upper
  pub table_long : clear 3 ↔ (table_length N A ≤ length A.words)
  pub result_long : clear 4 ↔ (N ≤ length d)
  pub table_below : clear 5 ↔ WordsBelow P N A
  pub zero_pivot : Prime P → clear 6 ↔ ((k : ℕ) × ZeroPivotAt P N A k)

pub record KernelPromises (P N : ℕ) (A : Table) (d : List ℕ) : Type 0 where
  -- accepted exactly where all is good and a pivot is zero
  pub accepts : Accepted (kernel_reply P N A d) ↔ (GoodLoan P N A d × ((k : ℕ) × ZeroPivotAt P N A k))
  -- "if the first zero pivot is at row k", "The value is k."
  pub value : (k : ℕ) → (kernel_reply P N A d ≡ accept k) ↔ (GoodLoan P N A d × ZeroPivotAt P N A k)
  -- "13, the table is regular, in the place of 7"; "its new refusals return 0, 0 where no place is named"
  pub regular : (kernel_reply P N A d ≡ refuse 13 0 0) ↔ (GoodLoan P N A d × NoneSingular P N A)
  -- "Members who get a 7 want to see the dependence.": with room for it the value is the row that solve's or inverse's 7 names, and the dense
  -- solve's 7 has one too; and where solve or inverse has no earlier fault, 13 is given exactly where it accepts
  pub after_solve : (x v c : List ℕ) (k : ℕ) → solve_reply P N A x v c ≡ refuse 7 1 k → N ≤ length d → kernel_reply P N A d ≡ accept k
  pub after_inverse : (c : List ℕ) (k : ℕ) → inverse_reply P N A c ≡ refuse 7 1 k → N ≤ length d → kernel_reply P N A d ≡ accept k
  pub after_dense : (x v c : List ℕ) → dense_reply P N A x v c ≡ refuse 7 1 0 → N ≤ length d → (k : ℕ) × (kernel_reply P N A d ≡ accept k)
  pub where_solved : (x v c : List ℕ) → NoFault (solve_earlier P N A x v c) → N ≤ length d
      → (kernel_reply P N A d ≡ refuse 13 0 0) ↔ Accepted (solve_reply P N A x v c)
  pub where_inverted : (c : List ℕ) → NoFault (inverse_earlier P N A c) → N ≤ length d
      → (kernel_reply P N A d ≡ refuse 13 0 0) ↔ Accepted (inverse_reply P N A c)
  -- "writes k residues whose last is 1 and which the leading k by k corner sends to zeros"
  pub row : (k : ℕ) → kernel_reply P N A d ≡ accept k → (1 ≤ k) × (k ≤ N)
  pub residues_written : (k : ℕ) → kernel_reply P N A d ≡ accept k → (i : ℕ) → i < k → get_or (kernel_after P N A d) i 0 < P
  pub shown : (k : ℕ) → kernel_reply P N A d ≡ accept k → Shows P N A k (kernel_after P N A d)
  -- "There is only one such column."
  pub only : (k : ℕ) → kernel_reply P N A d ≡ accept k → (y : ℕ → (residues P).car) → y (k - 1) ≡ (residues P).one → SentToZeros P N A k y
      → (i : ℕ) → i < k → y i ≡ column P (kernel_after P N A d) i
  -- "The result has N words; those after the k-th keep their contents."
  pub later_kept : (k : ℕ) → kernel_reply P N A d ≡ accept k → drop k (kernel_after P N A d) ≡ drop k d
  -- "a refusal leaves each lent buffer untouched", "the same goes for the surplus of every buffer"
  pub result_kept : Keeps (kernel_reply P N A d) N d (kernel_after P N A d)
  -- "Lent buffers are read and written within their lengths"
  pub result_length : length (kernel_after P N A d) ≡ length d
  -- what the result held is not read: reply and column depend on it by nothing but whether it is long enough
  pub unread : (d' : List ℕ) → short d N ≡ short d' N
      → (kernel_reply P N A d ≡ kernel_reply P N A d')
      × ((k : ℕ) → kernel_reply P N A d ≡ accept k → SameColumn k (kernel_after P N A d) (kernel_after P N A d'))
  -- the refusals in their order, and what each looks at
  pub order : ladder (kernel_checks P N A d)
      ≡ refuse 1 0 0 ∷ refuse 2 0 0 ∷ refuse 3 1 0 ∷ refuse 4 1 0 ∷ refuse 4 5 0 ∷ refuse 5 1 (first_bad_of P N A) ∷ refuse 13 0 0 ∷ []
  pub causes : KernelCauses P N A d (λ k. cause_at (kernel_checks P N A d) k ≡ false)
  -- the reply's parts come back from one number
  pub packs : Packed (kernel_reply P N A d)

-- ---- Its check.

-- no earlier fault: good numbers, a good table, a k ("8 outside 1…N") and a column, with its words after the k-th: "Every word of a lent table's N rows
-- that isn't idle, and all N words of a column, are tested for 5, also where an entry needs only some."
abbrev pub GoodQuestion : (P N : ℕ) (A : Table) (k : ℕ) (x : List ℕ) → Type 0
GoodQuestion P N A k x = GoodNumbers P N × GoodTable P N A × GoodColumn P N x × (1 ≤ k) × (k ≤ N)

pub record ShowsCauses (P N : ℕ) (A : Table) (k : ℕ) (x : List ℕ) (clear : ℕ → Type 0) : Type 0 where
  pub prime : clear 0 ↔ (Prime P × (P ≤ 2147483647))
  pub size : clear 1 ↔ ((1 ≤ N) × (N ≤ 1024))
  pub orders : clear 2 ↔ GoodOrders A.lower A.upper
  pub place : clear 3 ↔ ((1 ≤ k) × (k ≤ N))
  pub table_long : clear 4 ↔ (table_length N A ≤ length A.words)
  pub column_long : clear 5 ↔ (N ≤ length x)
  pub table_below : clear 6 ↔ WordsBelow P N A
  pub column_below : clear 7 ↔ ((i : ℕ) → i < N → get_or x i 0 < P)

pub record CheckPromises (P N : ℕ) (A : Table) (k : ℕ) (x : List ℕ) : Type 0 where
  pub accepts : Accepted (shows_reply P N A k x) ↔ GoodQuestion P N A k x
  -- "has, where it accepts, value 1 exactly when the k-th word is 1 and the corner sends the first k to zeros, whoever made them; else 0"
  pub yes : (shows_reply P N A k x ≡ accept 1) ↔ (GoodQuestion P N A k x × Shows P N A k x)
  pub no : (shows_reply P N A k x ≡ accept 0) ↔ (GoodQuestion P N A k x × (Shows P N A k x → ⊥))
  pub yes_or_no : Accepted (shows_reply P N A k x) → (shows_reply P N A k x ≡ accept 1) ⊎ (shows_reply P N A k x ≡ accept 0)
  -- "A column that shows the singularity": a 1 is given for no corner but a singular one
  pub singular : shows_reply P N A k x ≡ accept 1 → Singular (residues P) (matrix_of P N A) k
  -- "There is only one such column": at the first zero pivot a column that passes has the words that the kernel call writes
  pub only : shows_reply P N A k x ≡ accept 1 → (d : List ℕ) → kernel_reply P N A d ≡ accept k → SameColumn k x (kernel_after P N A d)
  -- words past the N-th of the column are not read
  pub surplus : (x' : List ℕ) → SameColumn N x x' → short x N ≡ short x' N → shows_reply P N A k x ≡ shows_reply P N A k x'
  pub order : ladder (shows_checks P N A k x)
      ≡ refuse 1 0 0 ∷ refuse 2 0 0 ∷ refuse 3 1 0 ∷ refuse 8 0 0 ∷ refuse 4 1 0 ∷ refuse 4 3 0
      ∷ refuse 5 1 (first_bad_of P N A) ∷ refuse 5 3 (first_bad_place_of P N x) ∷ []
  pub causes : ShowsCauses P N A k x (λ i. cause_at (shows_checks P N A k x) i ≡ false)
  pub packs : Packed (shows_reply P N A k x)

-- ---- Both.

-- what the kernel call leaves passes its check exactly where the later words of the result, which are kept, are below P, as zeros are; else it is
-- refused by 5
abbrev pub KernelPasses : Type 0
KernelPasses = (P N : ℕ) (A : Table) (d : List ℕ) (k : ℕ) → kernel_reply P N A d ≡ accept k
    → ((shows_reply P N A k (kernel_after P N A d) ≡ accept 1) ↔ ((i : ℕ) → k ≤ i → i < N → get_or d i 0 < P))
    × (Accepted (shows_reply P N A k (kernel_after P N A d))
    ⊎ (shows_reply P N A k (kernel_after P N A d) ≡ refuse 5 3 (first_bad_place_of P N (kernel_after P N A d))))

-- "The unused generators of the end rows influence nothing", nor does what lies past the N rows.
abbrev pub KernelUnused : Type 0
KernelUnused = (P N : ℕ) (A : Table) (t : List ℕ) → SameUsed N A t → short A.words (table_length N A) ≡ short t (table_length N A)
    → ((d : List ℕ) → (kernel_reply P N A d ≡ kernel_reply P N (with_words A t) d) × (kernel_after P N A d ≡ kernel_after P N (with_words A t) d))
    × ((k : ℕ) (x : List ℕ) → shows_reply P N A k x ≡ shows_reply P N (with_words A t) k x)

pub record Promises : Type 0 where
  pub swept : ZeroPivotSwept
  pub kernel : (P N : ℕ) (A : Table) (d : List ℕ) → KernelPromises P N A d
  pub check : (P N : ℕ) (A : Table) (k : ℕ) (x : List ℕ) → CheckPromises P N A k x
  pub passes : KernelPasses
  pub unused : KernelUnused
