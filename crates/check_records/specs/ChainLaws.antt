-- Laws of the search for where a file's chain goes wrong.
use Rattle.std.specs.Prelude.{true, false, ◌≢◌, ◌≡◌, List, ℕ, ◌+◌, ◌-◌, ◌<◌, ◌≤◌}
use Rattle.std.proofs.Common.{add-one, arith}
use borrow.Author.Tests.{eq-eqb, ne_eqb, lt-ltb, le-ltb}
use Rattle.lists.specs.Lists.{first_of}
use Rattle.lists.specs.ListLaws.{search_start}
use Rattle.table.specs.RowFile.{met, broken, first_broken_of}
use Rattle.check_records.specs.Filed.{Headed}

module _ (f : List ℕ) (n r s : ℕ) (h : Headed f n r s) where
  pub chain_start : first_broken_of f ≡ first_of (n + 1 - 0) (broken f) 0
  unfolding first_broken_of
  chain_start = rw (h.size, ← add-one) (search_start (n + 1) (broken f))

  -- the number met after k others is m
  module _ (k m : ℕ) (e : m ≡ met f k) where
    pub early : k < n → m ≡ 0 → broken f k ≡ true
    unfolding broken
    early l z = rw (h.size, ne_eqb k n (λ q. omega arith), ← e, z)

    pub beyond : k < n → n < m → broken f k ≡ true
    unfolding broken
    beyond l z = rw (h.size, ne_eqb k n (λ q. omega arith), ← e, ne_eqb m 0 (λ q. omega arith), lt-ltb n m z)

    pub inside : k < n → m ≢ 0 → m ≤ n → broken f k ≡ false
    unfolding broken
    inside l z u = rw (h.size, ne_eqb k n (λ q. omega arith), ← e, ne_eqb m 0 z, le-ltb n m u)

    pub ended : k ≡ n → m ≡ 0 → broken f k ≡ false
    unfolding broken
    ended l z = rw (h.size, eq-eqb k n l, ← e, z)

    pub endless : k ≡ n → m ≢ 0 → broken f k ≡ true
    unfolding broken
    endless l z = rw (h.size, eq-eqb k n l, ← e, ne_eqb m 0 z)
