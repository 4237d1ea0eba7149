-- What the call promises, as statements about FractionCall.antt. Quoted are the request and, of every call, the proposal and the
-- scope paper. The proofs are `largest_bound`, `bound_fits`, `at_most_one` and `promises` in FractionPromisesProof.antt.
use Rattle.std.specs.Prelude.{false, ◌≢◌, ◌↔◌, ◌≡◌, List, [], ◌∷◌, ℕ, suc, ◌*◌, ◌≤◌, ◌<◌, ℤ, pos, length, get_or}
use Rattle.field.specs.Prime.{Prime}
use Rattle.table.specs.Words.{first_bad_place_of, SameColumn}
use Rattle.table.specs.Replies.{Accepted, accept, refuse, ladder, cause_at, short}
use Rattle.table.specs.Undertakings.{GoodColumn, Keeps, Packed}
use Rattle.field_fractions.specs.Fraction.{bound, Fraction}
use Rattle.call_fractions.specs.FractionCall.{first_without_of, fractions_checks, fractions_reply, numerators_after_of, denominators_after_of}

-- "let M be their product and B the largest whole number with 2B² below M"
abbrev pub LargestBound : Type 0
LargestBound = (M : ℕ) → 0 < M → (2 * (bound M * bound M) < M) × ((k : ℕ) → 2 * (k * k) < M → k ≤ bound M)

-- "N signed 32-bit words": whatever is within the bound, of either sign, is one
abbrev pub BoundFits : Type 0
BoundFits = (P Q : ℕ) → P ≤ 2147483647 → Q ≤ 2147483647 → bound (P * Q) < 2147483648

-- "At most one such pair exists, which is to be shown."
abbrev pub AtMostOne : Type 0
AtMostOne = (P Q : ℕ) → Prime P → Prime Q → P ≢ Q → (x y : ℕ) (n : ℤ) (d : ℕ) (n' : ℤ) (d' : ℕ)
    → Fraction P Q x y n d → Fraction P Q x y n' d' → (n ≡ n') × (d ≡ d')

-- place k of two columns of residues has a fraction
abbrev pub HasFraction : (P Q : ℕ) (x y : List ℕ) → ℕ → Type 0
HasFraction P Q x y k = (n : ℤ) × (d : ℕ) × Fraction P Q (get_or x k 0) (get_or y k 0) n d

-- each of the N places has one
abbrev pub AllHave : (P Q N : ℕ) (x y : List ℕ) → Type 0
AllHave P Q N x y = (k : ℕ) → k < N → HasFraction P Q x y k

-- "the first failing place" is k, from 0
abbrev pub FirstFailing : (P Q N : ℕ) (x y : List ℕ) → ℕ → Type 0
FirstFailing P Q N x y k = (k < N) × (HasFraction P Q x y k → ⊥) × ((m : ℕ) → m < k → HasFraction P Q x y m)

-- P and Q are primes that the call takes
abbrev pub GoodPrimes : (P Q : ℕ) → Type 0
GoodPrimes P Q = Prime P × (P ≤ 2147483647) × Prime Q × (Q ≤ 2147483647)

-- "two different primes and a residue under each", lent "as two columns of N", and room for the fractions
abbrev pub GoodResidues : (P Q N : ℕ) (x y : List ℕ) (ns : List ℤ) (ds : List ℕ) → Type 0
GoodResidues P Q N x y ns ds =
    GoodPrimes P Q × (P ≢ Q) × (1 ≤ N) × (N ≤ 1024) × GoodColumn P N x × GoodColumn Q N y × (N ≤ length ns) × (N ≤ length ds)

-- "Each refusal is given where its cause holds and no earlier one does, and nowhere else", as for the checks of every call (`Refused` in
-- Undertakings.antt): the causes, in their order. Check k, from 0, finds nothing wrong exactly where the following holds.
pub record FractionCauses (P Q N : ℕ) (x y : List ℕ) (ns : List ℤ) (ds : List ℕ) (clear : ℕ → Type 0) : Type 0 where
  pub primes : clear 0 ↔ GoodPrimes P Q
  pub apart : clear 1 ↔ (P ≢ Q)
  pub size : clear 2 ↔ ((1 ≤ N) × (N ≤ 1024))
  pub first_long : clear 3 ↔ (N ≤ length x)
  pub second_long : clear 4 ↔ (N ≤ length y)
  pub numerators_long : clear 5 ↔ (N ≤ length ns)
  pub denominators_long : clear 6 ↔ (N ≤ length ds)
  pub first_below : clear 7 ↔ ((k : ℕ) → k < N → get_or x k 0 < P)
  pub second_below : clear 8 ↔ ((k : ℕ) → k < N → get_or y k 0 < Q)
  pub fractions : clear 9 ↔ AllHave P Q N x y

pub record FractionPromises (P Q N : ℕ) (x y : List ℕ) (ns : List ℤ) (ds : List ℕ) : Type 0 where
  -- accepted exactly where all is good and each place has a fraction
  pub accepts : Accepted (fractions_reply P Q N x y ns ds) ↔ (GoodResidues P Q N x y ns ds × AllHave P Q N x y)
  -- "The call returns numerator and denominator": what each place then holds is a fraction of its residues
  pub writes : Accepted (fractions_reply P Q N x y ns ds) → (k : ℕ) → k < N
      → Fraction P Q (get_or x k 0) (get_or y k 0) (get_or (numerators_after_of P Q N x y ns ds) k (pos 0)) (get_or (denominators_after_of P Q N x y ns ds) k 0)
  -- "11, equal primes, after 1": exactly where both are one prime
  pub equal : (fractions_reply P Q N x y ns ds ≡ refuse 11 0 0) ↔ (GoodPrimes P Q × (P ≡ Q))
  -- "12 returns 0 and the first failing place": where all but the fractions is good, exactly there
  pub without : GoodResidues P Q N x y ns ds → (k : ℕ) → (fractions_reply P Q N x y ns ds ≡ refuse 12 0 (suc k)) ↔ FirstFailing P Q N x y k
  -- "11, equal primes, after 1; 12, no such pair, last of all": the refusals in their order, and what each looks at
  pub order : ladder (fractions_checks P Q N x y ns ds)
      ≡ refuse 1 0 0 ∷ refuse 11 0 0 ∷ refuse 2 0 0 ∷ refuse 4 1 0 ∷ refuse 4 2 0 ∷ refuse 4 4 0 ∷ refuse 4 5 0
      ∷ refuse 5 1 (first_bad_place_of P N x) ∷ refuse 5 2 (first_bad_place_of Q N y) ∷ refuse 12 0 (first_without_of P Q N x y) ∷ []
  pub causes : FractionCauses P Q N x y ns ds (λ k. cause_at (fractions_checks P Q N x y ns ds) k ≡ false)
  -- "a refusal leaves each lent buffer untouched", and words past the N-th are not written
  pub numerators_kept : Keeps (fractions_reply P Q N x y ns ds) N ns (numerators_after_of P Q N x y ns ds)
  pub denominators_kept : Keeps (fractions_reply P Q N x y ns ds) N ds (denominators_after_of P Q N x y ns ds)
  -- "Lent buffers are read and written within their lengths"
  pub numerators_length : length (numerators_after_of P Q N x y ns ds) ≡ length ns
  pub denominators_length : length (denominators_after_of P Q N x y ns ds) ≡ length ds
  -- words past the N-th are not read: columns that agree in their first N words give the same
  pub surplus : (x' y' : List ℕ) → SameColumn N x x' → SameColumn N y y' → short x N ≡ short x' N → short y N ≡ short y' N
      → (fractions_reply P Q N x y ns ds ≡ fractions_reply P Q N x' y' ns ds) × (numerators_after_of P Q N x y ns ds ≡ numerators_after_of P Q N x' y' ns ds)
      × (denominators_after_of P Q N x y ns ds ≡ denominators_after_of P Q N x' y' ns ds)
  -- the reply depends on the written buffers by nothing but whether they are long enough
  pub unread : (ns' : List ℤ) (ds' : List ℕ) → short ns N ≡ short ns' N → short ds N ≡ short ds' N
      → fractions_reply P Q N x y ns ds ≡ fractions_reply P Q N x y ns' ds'
  -- the value is 0, and the reply's parts come back from one number
  pub value : Accepted (fractions_reply P Q N x y ns ds) → fractions_reply P Q N x y ns ds ≡ accept 0
  pub packs : Packed (fractions_reply P Q N x y ns ds)
