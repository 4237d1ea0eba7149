-- A call on two tables, for any words of the added orders that it may write.
use Rattle.std.specs.Prelude.{◌≡◌, List, ℕ, ◌+◌, ◌*◌, length}
use Rattle.table.specs.Words.{Table, width}
use Rattle.table.specs.Replies.{Reply, Accepted}
use Rattle.check_numbers.specs.Passed.{GoodPair}

-- x is the reply of the checks, y the one that the call owes, W m what it writes by the modulus m. Where it accepts, the tables are good;
-- what it writes has the length of a table of the added orders.
pub record PairCall (P N : ℕ) (A B : Table) (d : List ℕ) (W : ℕ → List ℕ) (y x : Reply) : Type 0 where
  pub answered : x ≡ y
  pub passed : Accepted y → GoodPair P N A B d
  pub long : length (W P) ≡ N * width (A.lower + B.lower) (A.upper + B.upper)
