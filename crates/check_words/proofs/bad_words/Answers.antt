-- `check_words::bad_words` meets its contract.
use Rattle.std.proofs.Common.{get_or, rules}
use Rattle.check_words.proofs.bad_words.Goals as goal

pub returns : goal.returns
returns c = c.bad_given.ensures (λ i. get_or c.args.t.now i 0) (λ i x l p. search rules)
