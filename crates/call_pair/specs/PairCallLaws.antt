-- A call on two tables: what the modulus and the writer of the words ask of it, and what it leaves.
use Rattle.std.specs.Prelude.{◌≢◌, ◌≡◌, ℕ, ◌+◌, ◌*◌, length, drop}
use Rattle.std.proofs.Common.{sym, ap, ◌∙◌, arith}
use mathlib.Core.List.{List, [], ◌++◌}
use Rattle.field.specs.Residue.{prime_pos}
use Rattle.field.specs.Fit.{Allowed}
use Rattle.table.specs.Words.{Table, width}
use Rattle.table.proofs.WordLaws.{length_table}
use Rattle.table.specs.Replies.{Reply, Accepted, accept, answer, after}
use Rattle.table.specs.Results.{sum_w, product_w}
use Rattle.table.specs.Calls.{pair_checks, sum_reply, product_reply}
use Rattle.check_numbers.specs.Passed.{GoodPair, sum_passed, product_passed}
use Rattle.table.proofs.CallLaws.{refused_leaves, accepted_leaves, written_length}
use Rattle.call_pair.specs.PairCall.{PairCall}

module _ {P N : ℕ} {A B : Table} {d : List ℕ} {W : ℕ → List ℕ} {y x : Reply} (c : PairCall P N A B d W y x) where
  pub call_refused : x.number ≢ 0 → (x ≡ y) × (d ≡ after y (W P) d)
  call_refused n = (c.answered, refused_leaves y (W P) d (λ z. n (ap (λ (y : Reply). y.number) c.answered ∙ z)))

  module _ (ok : x.number ≡ 0) where
    call_accepted : Accepted y
    call_accepted = ap (λ (y : Reply). y.number) (sym c.answered) ∙ ok

    call_good : GoodPair P N A B d
    call_good = c.passed call_accepted

    pub call_prime : Allowed P
    call_prime = let g = call_good.first in (prime_pos P g.prime, omega (arith, g.limit))

    -- by the modulus that code holds
    module _ (m : ℕ) (e : m ≡ P) where
      pub call_pair_lem : GoodPair m N A B d
      call_pair_lem = rw e call_good

      module _ (out : List ℕ) (f : out ≡ W m ++ drop (N * width (A.lower + B.lower) (A.upper + B.upper)) d) where
        written : out ≡ W P ++ drop (N * width (A.lower + B.lower) (A.upper + B.upper)) d
        written = rw (sym e) f

        pub call_length : length out ≡ length d
        call_length = written_length (W P) d out _ c.long call_good.room written

        pub call_leaves : (x ≡ y) × (out ≡ after y (W P) d)
        call_leaves = (c.answered, accepted_leaves y (W P) d out _ call_accepted c.long written)

-- the sum and the product are such calls
module _ (P N : ℕ) (A B : Table) (d : List ℕ) (x : Reply) where
  pub sum_call : x ≡ answer (pair_checks P N A B d) (accept 0) → PairCall P N A B d (λ m. sum_w m N A B) (sum_reply P N A B d) x
  unfolding sum_reply sum_w
  sum_call e = record { answered = e; passed = sum_passed P N A B d; long = length_table P N _ _ _ [] }

  pub product_call : x ≡ answer (pair_checks P N A B d) (accept 0) → PairCall P N A B d (λ m. product_w m N A B) (product_reply P N A B d) x
  unfolding product_reply product_w
  product_call e = record { answered = e; passed = product_passed P N A B d; long = length_table P N _ _ _ [] }
