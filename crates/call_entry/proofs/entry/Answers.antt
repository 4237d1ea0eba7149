-- `call_entry::entry` meets its contract: what the checks have shown.
use Rattle.std.proofs.Common.{refl, arith, ◌-◌, ◌≤◌}
use Rattle.field.specs.Residue.{prime_pos}
use Rattle.table.specs.Words.{table}
use Rattle.table.specs.Replies.{accept}
use Rattle.table.specs.Results.{entry_w}
use Rattle.table.specs.Calls.{entry_checks, entry_reply}
use Rattle.check_numbers.specs.CheckLaws.{accepts}
use Rattle.check_numbers.specs.Passed.{Good, entry_passed}
use Rattle.call_entry.proofs.entry.Goals.{In_ok-check_entry}
use Rattle.call_entry.proofs.entry.Goals as goal

passed : (c : In_ok-check_entry) → let a = c.args in
    Good a.p a.n (table a.r a.s a.table.now) × ((1 ≤ a.i) × (a.i ≤ a.n)) × ((1 ≤ a.j) × (a.j ≤ a.n))
unfolding entry_reply
passed c = let a = c.args in let A = table a.r a.s a.table.now in
    entry_passed a.p a.n A a.i a.j
    (accepts (entry_checks a.p a.n A a.i a.j) (accept (entry_w a.p a.n A (a.i - 1) (a.j - 1))) refl c.in_ok-check_entry.ensures)

pub new-m-requires : goal.new-m-requires
new-m-requires c = let g = (passed (goal.at.new-m-requires c).In_ok-check_entry).0 in (prime_pos _ g.prime, omega (arith, g.limit))

pub entry_word-requires : goal.entry_word-requires
entry_word-requires c = let q = passed (goal.at.entry_word-requires c).In_ok-check_entry in
    (rw c.new-m.ensures q.0, omega (arith, q.1), omega (arith, q.2))
