-- What the checks of a file go by: its head and its records.
use Rattle.std.specs.Prelude.{List, ◌≡◌, ℕ, ◌+◌, ◌-◌, ◌*◌, ◌≤◌, take, drop}
use Rattle.table.specs.RowFile.{head_n, head_r, head_s}
use Rattle.table.specs.Limits.{most_order, most_size}

-- the size and the orders in the head are n, r and s, within the limits
pub record Headed (f : List ℕ) (n r s : ℕ) : Type 0 where
  pub size : head_n f ≡ n
  pub lower : head_r f ≡ r
  pub upper : head_s f ≡ s
  pub most : n ≤ most_size
  pub lower_most : r ≤ most_order
  pub upper_most : s ≤ most_order

-- the bytes of record m, numbered from 1, of w words each
abbrev pub record_of : List ℕ → (m w : ℕ) → List ℕ
record_of f m w = take (4 * w) (drop (4 * (5 + (m - 1) * w)) f)
