-- `call_entry::matrix_rows` meets its contract.
use Rattle.std.proofs.Common.{◌≡◌, ◌∙◌, arith, refl}
use Rattle.call_entry.specs.MatrixLaws.{all_rows}
use Rattle.call_entry.proofs.matrix_rows.Goals as goal

pub returns : goal.returns
returns c = let a = c.args in let z : c.loop-i.i ≡ a.n = omega arith in c.loop-i.invariant ∙ rw (z, all_rows a.m.p a.n a.r a.s a.t.now) refl
