-- What the calls leave in the result: from what the row writers leave to the definitions.
use Rattle.std.specs.Prelude.{◌≡◌, ℕ, ◌*◌, length}
use Rattle.std.proofs.Common.{◌∙◌}
use Rattle.std.proofs.Math.Path.{ap}
use mathlib.Core.List.{List, []}
use Rattle.table.specs.Words.{table, width}
use Rattle.table.proofs.WordLaws.{width_swap, length_table}
use Rattle.table.specs.Results.{transpose_w, multiple_w}

module _ (P N r s : ℕ) (t : List ℕ) where
  pub transpose_length : length (transpose_w P N (table r s t)) ≡ N * width r s
  unfolding transpose_w
  transpose_length = length_table P N s r _ [] ∙ ap (λ (n : ℕ). N * n) (width_swap r s)

  pub multiple_length : (c : ℕ) → length (multiple_w P N (table r s t) c) ≡ N * width r s
  unfolding multiple_w
  multiple_length c = length_table P N r s _ []
