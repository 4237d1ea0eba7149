-- The dense solve: its checks, its reply, and each written buffer afterwards. Numbers and buffers as for the other calls; 4 is the lent square, and 7
-- beside 1 and 0 says that the whole matrix is singular.
use Rattle.std.specs.Prelude.{Bool, ◌||◌, not, List, [], ◌∷◌, ◌++◌, ℕ, ◌*◌, eqb}
use Rattle.algebra.specs.Generators.{pick}
use Rattle.field.specs.Residue.{residues}
use Rattle.lists.specs.Lists.{tabulate, over}
use Rattle.table.specs.Words.{Table, matrix_of}
use Rattle.table.specs.Replies.{Reply, Check, check, accept, refuse, answer, after}
use Rattle.table.specs.Results.{column, column_words}
use Rattle.algebra_elimination.specs.Elimination.{nonsingular, solution}
use Rattle.table.specs.Limits.{up_to}
use Rattle.table.specs.Calls.{system_checks}

module _ (P N : ℕ) (A : Table) where
  -- elimination with row exchanges finds every pivot of the table's matrix
  unfoldable pub nonsingular_w : Bool
  nonsingular_w = nonsingular (residues P) N (matrix_of P N A)

  -- the words of the solution
  unfoldable pub dense_w : List ℕ → List ℕ
  dense_w x = column_words P N (solution (residues P) N (matrix_of P N A) (column P x))

  module _ (x v d : List ℕ) where
    -- the checks before the square is in use: N is at most 256
    abbrev pub dense_earlier : List Check
    dense_earlier = system_checks P N A (up_to 256) (N * N) x v d

    abbrev pub dense_checks : List Check
    dense_checks = dense_earlier ++ (check (not nonsingular_w) (refuse 7 1 0) ∷ [])

    unfoldable pub dense_reply : Reply
    dense_reply = answer dense_checks (accept 0)

    abbrev pub dense_after : List ℕ
    dense_after = after dense_reply (dense_w x) d

    -- the square ends as zeros where it was in use: accepted, and refused with 7
    abbrev pub square_after_of : List ℕ
    square_after_of = pick (eqb dense_reply.number 0 || eqb dense_reply.number 7) (over (tabulate (N * N) (λ e. 0)) v) v
