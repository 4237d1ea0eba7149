-- `call_transpose::transpose` meets its contract: what the rows' writer leaves, by the prime that the checks have found.
use Rattle.std.proofs.Common.{refl, arith}
use Rattle.std.proofs.lemmas.Grind.{common_steps}
use Rattle.field.specs.Residue.{prime_pos}
use Rattle.table.specs.Replies.{accept, answer}
use Rattle.table.specs.Words.{table}
use Rattle.table.specs.Calls.{transpose_checks, transpose_reply}
use Rattle.check_numbers.specs.CheckLaws.{accepts}
use Rattle.check_numbers.specs.Passed.{transpose_passed}
use Rattle.call_transpose.proofs.transpose.Goals as goal

pub returns-clause-res_after : goal.returns-clause-res_after
unfolding answer transpose_reply
returns-clause-res_after c = let a = c.args in
    let A = table a.r a.s a.table.now in
    let ok = accepts (transpose_checks a.p a.n A a.res.now) (accept 0) refl (c.in_ok-check_table.ensures a.res.now refl) in
    let good = (transpose_passed a.p a.n A a.res.now ok).0 in
    let written = c.transpose.ensures a.p (prime_pos a.p good.prime) good.words in
    grind (arith, common_steps, written)
