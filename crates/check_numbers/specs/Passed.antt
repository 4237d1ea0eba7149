-- What an accepted call has checked.
use Rattle.std.proofs.Math.Bool.{false}
use Rattle.std.specs.Prelude.{◌≡◌, List, ℕ, ◌+◌, ◌*◌, ◌<◌, ◌≤◌, leb, length}
use Rattle.std.proofs.Math.Path.{refl}
use borrow.Author.Tests.{leb-true, leb-false, ltb-false}
use Rattle.field.specs.Prime.{Prime}
use Rattle.field.specs.PrimeTest.{is_prime_of}
use Rattle.lists.specs.ListLaws.{or_false}
use Rattle.table.specs.Limits.{standard, most_order, most_prime, most_size}
use Rattle.table.specs.Words.{Table, width, first_bad_of, first_bad_place_of}
use Rattle.table.specs.Replies.{Accepted, NoFault, accept, bad_prime_of, bad_size_of, bad_order, bad_place_of}
use Rattle.table.specs.Results.{entry_w}
use Rattle.table.specs.RowFile.{file_bytes}
use Rattle.table.specs.Calls.{table_length, entry_checks, entry_reply, matrix_checks, matrix_reply, apply_checks, apply_reply, transpose_checks, transpose_reply}
use Rattle.table.specs.Calls.{multiple_checks, multiple_reply, pair_checks, sum_reply, product_reply, solve_earlier, inverse_earlier, write_checks, write_reply}
use Rattle.table.proofs.CallLaws.{passed, no_row, both_hold, good_prime}
use Rattle.table.proofs.WordLaws.{words_below}
use Rattle.table.specs.Undertakings.{GoodNumbers, GoodTable}

-- The prime, the size and the orders are within the limits, the table is long enough and no used word of it is P or more.
pub record Good (P N : ℕ) (A : Table) : Type 0 where
  pub prime : Prime P
  pub limit : P ≤ most_prime
  pub most : N ≤ most_size
  pub lower : A.lower ≤ most_order
  pub upper : A.upper ≤ most_order
  pub long : table_length N A ≤ length A.words
  pub words : first_bad_of P N A ≡ 0

-- which is what a call asks of its numbers and its table
pub good_of : (P N : ℕ) (A : Table) → GoodNumbers P N → GoodTable P N A → Good P N A
good_of P N A n t = record {
  prime = n.0;
  limit = n.1;
  most = n.3;
  lower = t.0.0;
  upper = t.0.1;
  long = t.1;
  words = (words_below P N A).1 t.2;
}

module _ (P N : ℕ) (A : Table) (c0 : bad_prime_of standard.prime P ≡ false) (c1 : bad_size_of standard.size N ≡ false)
    (c2 : bad_order standard.order A.lower A.upper ≡ false) (long : table_length N A ≤ length A.words) (words : first_bad_of P N A ≡ 0) where
  pub good : Good P N A
  good = record {
    prime = good_prime standard.prime P c0;
    limit = leb-true P standard.prime (both_hold (is_prime_of P) (leb P standard.prime) c0).1;
    most = leb-true N standard.size (both_hold (leb 1 N) (leb N standard.size) c1).1;
    lower = leb-true A.lower standard.order (both_hold (leb A.lower standard.order) (leb A.upper standard.order) c2).0;
    upper = leb-true A.upper standard.order (both_hold (leb A.lower standard.order) (leb A.upper standard.order) c2).1;
    long = long;
    words = words;
  }

module _ (P N : ℕ) (A : Table) where
  pub entry_passed : (i j : ℕ) → Accepted (entry_reply P N A i j) → Good P N A × ((1 ≤ i) × (i ≤ N)) × ((1 ≤ j) × (j ≤ N))
  unfolding entry_reply
  entry_passed i j ok = let c = passed (entry_checks P N A i j) (accept (entry_w P N A _ _)) refl ok in (
    good P N A (c 0) (c 1) (c 2) (ltb-false _ _ (c 4)) (no_row _ (c 5)),
    within i (or_false (bad_place_of N i) (bad_place_of N j) (c 3)).0,
    within j (or_false (bad_place_of N i) (bad_place_of N j) (c 3)).1,
  )
    where
      within : (k : ℕ) → bad_place_of N k ≡ false → (1 ≤ k) × (k ≤ N)
      within k e = let b = both_hold (leb 1 k) (leb k N) e in (leb-true 1 k b.0, leb-true k N b.1)

  pub matrix_passed : (d : List ℕ) → Accepted (matrix_reply P N A d) → Good P N A × (N * N ≤ length d)
  unfolding matrix_reply
  matrix_passed d ok = let c = passed (matrix_checks P N A d) (accept 0) refl ok in
      (good P N A (c 0) (c 1) (c 2) (ltb-false _ _ (c 3)) (no_row _ (c 5)), ltb-false _ _ (c 4))

  pub apply_passed : (x d : List ℕ) → Accepted (apply_reply P N A x d) → Good P N A × (N ≤ length x) × (N ≤ length d) × (first_bad_place_of P N x ≡ 0)
  unfolding apply_reply
  apply_passed x d ok = let c = passed (apply_checks P N A x d) (accept 0) refl ok in
      (good P N A (c 0) (c 1) (c 2) (ltb-false _ _ (c 3)) (no_row _ (c 6)), ltb-false _ _ (c 4), ltb-false _ _ (c 5), no_row _ (c 7))

  -- the checks of transpose, which are those of inverse before the pivots
  pub inverse_passed : (d : List ℕ) → NoFault (inverse_earlier P N A d) → Good P N A × (table_length N A ≤ length d)
  inverse_passed d c = (good P N A (c 0) (c 1) (c 2) (ltb-false _ _ (c 3)) (no_row _ (c 5)), ltb-false _ _ (c 4))

  pub transpose_passed : (d : List ℕ) → Accepted (transpose_reply P N A d) → Good P N A × (table_length N A ≤ length d)
  unfolding transpose_reply
  transpose_passed d ok = inverse_passed d (passed (transpose_checks P N A d) (accept 0) refl ok)

  pub multiple_passed : (k : ℕ) (d : List ℕ) → Accepted (multiple_reply P N A k d) → Good P N A × (table_length N A ≤ length d) × (k < P)
  unfolding multiple_reply
  multiple_passed k d ok = let c = passed (multiple_checks P N A k d) (accept 0) refl ok in
      (good P N A (c 0) (c 1) (c 2) (ltb-false _ _ (c 3)) (no_row _ (c 6)), ltb-false _ _ (c 4), leb-false _ _ (c 5))

  pub write_passed : (f : List ℕ) → Accepted (write_reply P N A f) → Good P N A × (file_bytes N A.lower A.upper ≤ length f)
  unfolding write_reply
  write_passed f ok = let c = passed (write_checks P N A f) (accept 0) refl ok in
      (good P N A (c 0) (c 1) (c 2) (ltb-false _ _ (c 3)) (no_row _ (c 5)), ltb-false _ _ (c 4))

  -- the checks of solve before the pivots
  pub solve_passed : (x v d : List ℕ) → NoFault (solve_earlier P N A x v d) → Good P N A × (1 ≤ N) × (N ≤ length x) × (N * A.upper ≤ length v)
      × (N ≤ length d) × (first_bad_place_of P N x ≡ 0)
  solve_passed x v d c = (
    good P N A (c 0) (c 1) (c 2) (ltb-false _ _ (c 3)) (no_row _ (c 7)),
    leb-true 1 N (both_hold (leb 1 N) (leb N standard.size) (c 1)).0,
    ltb-false _ _ (c 4),
    ltb-false _ _ (c 5),
    ltb-false _ _ (c 6),
    no_row _ (c 8),
  )

-- two tables are good, their orders added are within the limits and the result has room
pub record GoodPair (P N : ℕ) (A B : Table) (d : List ℕ) : Type 0 where
  pub first : Good P N A
  pub second : Good P N B
  pub lower : A.lower + B.lower ≤ most_order
  pub upper : A.upper + B.upper ≤ most_order
  pub room : N * width (A.lower + B.lower) (A.upper + B.upper) ≤ length d

module _ (P N : ℕ) (A B : Table) (d : List ℕ) where
  pair_passed : NoFault (pair_checks P N A B d) → GoodPair P N A B d
  pair_passed c =
      let o = both_hold (leb (A.lower + B.lower) standard.order) (leb (A.upper + B.upper) standard.order) (c 4) in
      record {
        first = good P N A (c 0) (c 1) (c 2) (ltb-false _ _ (c 5)) (no_row _ (c 8));
        second = good P N B (c 0) (c 1) (c 3) (ltb-false _ _ (c 6)) (no_row _ (c 9));
        lower = leb-true (A.lower + B.lower) standard.order o.0;
        upper = leb-true (A.upper + B.upper) standard.order o.1;
        room = ltb-false _ _ (c 7);
      }

  pub sum_passed : Accepted (sum_reply P N A B d) → GoodPair P N A B d
  unfolding sum_reply
  sum_passed ok = pair_passed (passed (pair_checks P N A B d) (accept 0) refl ok)

  pub product_passed : Accepted (product_reply P N A B d) → GoodPair P N A B d
  unfolding product_reply
  product_passed ok = pair_passed (passed (pair_checks P N A B d) (accept 0) refl ok)
