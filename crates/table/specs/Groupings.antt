-- Groupings of a list of factors, under one P and N.
use Rattle.std.specs.Prelude.{List, [], ◌∷◌, ◌++◌, ℕ}
use Rattle.table.specs.Words.{Table}
use Rattle.table.specs.Replies.{Accepted}
use Rattle.table.specs.Calls.{product_reply, product_t}

-- the factor itself, or two groupings and the buffer lent to the product call
pub data Grouping : Type 0 where
  factor : Table → Grouping
  cut : Grouping → Grouping → List ℕ → Grouping

-- its factors, from left to right: the first, and the others
abbrev pub first_factor : Grouping → Table
first_factor (factor A) = A
first_factor (cut g h d) = first_factor g

abbrev pub other_factors : Grouping → List Table
other_factors (factor A) = []
other_factors (cut g h d) = other_factors g ++ (first_factor h ∷ other_factors h)

module _ (P N : ℕ) where
  -- the table that its calls leave
  abbrev pub grouped : Grouping → Table
  grouped (factor A) = A
  grouped (cut g h d) = product_t P N (grouped g) (grouped h) d

  -- every product call of it accepts
  abbrev pub AllAccept : Grouping → Type 0
  AllAccept (factor A) = Unit {0}
  AllAccept (cut g h d) = AllAccept g × AllAccept h × Accepted (product_reply P N (grouped g) (grouped h) d)
