-- The limits of primes, sizes and orders, and the house prime. Each stands here once.
use Rattle.std.specs.Prelude.{ℕ}

-- the largest number that may be a prime, the largest size and the largest order of every call of the scope
abbrev pub most_prime : ℕ
most_prime = 2147483647

abbrev pub most_size : ℕ
most_size = 1024

abbrev pub most_order : ℕ
most_order = 8

-- the words of a row of the largest orders
abbrev pub most_width : ℕ
most_width = 161

-- what a call's checks take as the largest
pub record Limits : Type 0 where
  pub prime : ℕ
  pub size : ℕ
  pub order : ℕ

-- sizes up to n, and the primes and orders that every call takes
abbrev pub up_to : ℕ → Limits
up_to n = record { prime = most_prime; size = n; order = most_order }

-- those of every call of the scope
abbrev pub standard : Limits
standard = up_to most_size

-- the prime of a file whose head has 0 in its place: the paper's "house prime"
abbrev pub house_prime : ℕ
house_prime = 2147483647
