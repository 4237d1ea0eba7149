-- Words that a closure gives.
use Rattle.std.specs.Prelude.{◌≡◌, ℕ, ◌<◌}

-- a call may be made at each place below n; and what it returns there is that word of w
abbrev pub TakesBelow : (ℕ → Type 0) → ℕ → Type 0
TakesBelow pre n = (i : ℕ) → i < n → pre i

abbrev pub Gives : (ℕ → ℕ → Type 0) → ℕ → (ℕ → ℕ) → Type 0
Gives post n w = (i x : ℕ) → i < n → post i x → x ≡ w i
