-- Lists by their words, and by rows.
use Rattle.std.specs.Prelude.{Bool, true, false, ◌||◌, List, [], ◌∷◌, ◌++◌, Option, Some, None, ℕ, zero, suc, ◌+◌, length, take, drop}

-- f 0, f 1, .., f (n - 1)
abbrev pub tabulate {ℓ} : {X : Type ℓ} → ℕ → (ℕ → X) → List X
tabulate zero f = []
tabulate (suc n) f = f 0 ∷ tabulate n (λ i. f (suc i))

-- g 0, then g 1, .., then g (n - 1)
abbrev pub rows_of : ℕ → (ℕ → List ℕ) → List ℕ
rows_of zero g = []
rows_of (suc n) g = rows_of n g ++ g n

-- some f below n is true
unfoldable pub some : ℕ → (ℕ → Bool) → Bool
some zero f = false
some (suc n) f = some n f || f n

-- one more than the least k ≥ at among n numbers with f k; 0 where there is none
unfoldable pub first_of : ℕ → (ℕ → Bool) → ℕ → ℕ
first_of zero f at = 0
first_of (suc n) f at = elim (f at) [ true ↦ suc at | false ↦ first_of n f (suc at) ]

-- what a search found, counted as `first_of` counts: one more than the place, 0 where there is none
abbrev pub counted : Option ℕ → ℕ
counted None = 0
counted (Some k) = suc k

-- a buffer that held d, with ys written at its start
abbrev pub over {ℓ} : {X : Type ℓ} → List X → List X → List X
over ys d = ys ++ drop (length ys) d

-- the same where ys are n words
abbrev pub begun {ℓ} : {X : Type ℓ} → ℕ → List X → List X → List X
begun n ys d = ys ++ drop n d

-- a buffer that held d, with f 0, .., f (n - 1) written from `at` on
unfoldable pub put_at : (at n : ℕ) → (ℕ → ℕ) → List ℕ → List ℕ
put_at at n f d = take at d ++ (tabulate n f ++ drop (at + n) d)
