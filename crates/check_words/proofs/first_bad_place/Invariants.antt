use Rattle.std.proofs.Common.{◌≡◌, ◌-◌, leb, get_or}
use Rattle.lists.specs.Lists.{first_of}
use Rattle.check_words.proofs.first_bad_place.Given as goal

abbrev pub invariant-loop-i : goal.invariant-loop-i
invariant-loop-i l = first_of l.n (λ k. leb l.p (get_or l.x k 0)) 0 ≡ first_of (l.n - l.i) (λ k. leb l.p (get_or l.x k 0)) l.i
