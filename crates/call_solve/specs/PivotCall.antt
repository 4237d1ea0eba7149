-- A call that refuses a zero pivot, for any checks before the pivots.
use Rattle.std.specs.Prelude.{true, [], ◌∷◌, ◌++◌, List, ◌≡◌, ℕ}
use Rattle.table.specs.Words.{Table}
use Rattle.table.specs.Replies.{Reply, Check, accept, answer, NoFault}
use Rattle.table.specs.Calls.{check_pivots}
use Rattle.table.proofs.CallLaws.{refusing}
use Rattle.check_numbers.specs.Passed.{Good}

-- cs are the checks before the pivots and x their reply; y is the one that the call owes. Where cs find nothing, the table is good.
pub record PivotCall (P N : ℕ) (A : Table) (cs : List Check) (y x : Reply) : Type 0 where
  pub owed : y ≡ answer (cs ++ (check_pivots P N A ∷ [])) (accept 0)
  pub answered : x ≡ answer cs (accept 0)
  pub refuses : refusing cs ≡ true
  pub good : NoFault cs → Good P N A
