-- `call_pair::sum` meets its contract: what the checks have shown.
use Rattle.std.proofs.Common.{Ok, refl}
use Rattle.table.specs.Words.{table}
use Rattle.table.specs.Results.{sum_w}
use Rattle.table.specs.Replies.{accept}
use Rattle.table.specs.Calls.{pair_checks, sum_reply}
use Rattle.check_numbers.specs.CheckLaws.{answered}
use Rattle.call_pair.specs.PairCall.{PairCall}
use Rattle.call_pair.specs.PairCallLaws.{sum_call, call_prime, call_pair_lem}
use Rattle.call_pair.proofs.sum.Goals.{In_ok-check_pair}
use Rattle.call_pair.proofs.sum.Goals as goal

-- the checks have passed, and the call accepts
checked : (c : In_ok-check_pair) → let a = c.args in let A = table a.r1 a.s1 a.first.now in let B = table a.r2 a.s2 a.second.now in
    PairCall a.p a.n A B a.res.now (λ m. sum_w m a.n A B) (sum_reply a.p a.n A B a.res.now) (accept 0)
checked c = let a = c.args in let A = table a.r1 a.s1 a.first.now in let B = table a.r2 a.s2 a.second.now in
    sum_call a.p a.n A B a.res.now _ (answered (pair_checks a.p a.n A B a.res.now) (Ok tt) (c.in_ok-check_pair.ensures a.res.now refl))

pub new-m-requires : goal.new-m-requires
new-m-requires c = call_prime (checked (goal.at.new-m-requires c).In_ok-check_pair) refl

pub sum-requires : goal.sum-requires
sum-requires c = call_pair_lem (checked (goal.at.sum-requires c).In_ok-check_pair) refl _ c.new-m.ensures
