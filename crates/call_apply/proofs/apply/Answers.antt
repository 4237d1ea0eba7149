-- `call_apply::apply` meets its contract: what the checks have shown.
use Rattle.std.proofs.Common.{refl}
use Rattle.table.specs.Words.{table}
use Rattle.call_apply.specs.ApplyLaws.{allowed, asked}
use Rattle.call_apply.proofs.apply.Goals as goal

pub new-m-requires : goal.new-m-requires
new-m-requires c = let a = c.args in
    allowed a.p a.n (table a.r a.s a.table.now) a.column.now a.res.now (c.in_ok-check_apply.ensures a.res.now refl)

pub apply_words-requires : goal.apply_words-requires
apply_words-requires c = let a = c.args in
    asked a.p a.n (table a.r a.s a.table.now) a.column.now a.res.now (c.in_ok-check_apply.ensures a.res.now refl) _ c.new-m.ensures
