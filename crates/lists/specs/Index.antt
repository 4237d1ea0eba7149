-- Places in lent buffers: how far they go, and products of numbers within a limit.
use Rattle.std.specs.Prelude.{ℕ, ◌*◌, ◌≤◌}
use Rattle.std.proofs.Common.{mul-le-mul}

-- no place in a table or a file is beyond this one, so that sums of places fit a word
abbrev pub farthest : ℕ
farthest = 1048576

pub product_le : (a b k : ℕ) → a ≤ k → b ≤ k → a * b ≤ k * k
product_le a b k p q = mul-le-mul p q
