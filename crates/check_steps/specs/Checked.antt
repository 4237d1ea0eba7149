-- What the checks of the numbers and the lengths show of a table.
use Rattle.std.specs.Prelude.{List, ℕ, ◌*◌, ◌≤◌, length}
use Rattle.table.specs.Limits.{most_size, most_order}
use Rattle.table.specs.Words.{width}

-- a size and orders within the limits; and a table that has all of its n rows
abbrev pub Sized : (n r s : ℕ) → Type 0
Sized n r s = (n ≤ most_size) × (r ≤ most_order) × (s ≤ most_order)

abbrev pub TableSized : (n r s : ℕ) → List ℕ → Type 0
TableSized n r s t = Sized n r s × (n * width r s ≤ length t)
