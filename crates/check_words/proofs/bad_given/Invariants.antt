use Rattle.std.proofs.Common.{◌≡◌, ℕ, ◌+◌, leb}
use Rattle.lists.specs.Lists.{some}
use Rattle.check_words.specs.Given.{Gives}
use Rattle.check_words.proofs.bad_given.Given as goal

abbrev pub invariant-loop-k : goal.invariant-loop-k
invariant-loop-k g l = (w : ℕ → ℕ) → Gives (goal.F-post g l.word) (l.at + l.n) w → l.bad ≡ some l.k (λ e. leb l.p (w (l.at + e)))
