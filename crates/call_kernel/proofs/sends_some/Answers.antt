-- `call_kernel::sends_some` meets its contract.
use Rattle.std.proofs.Common.{◌∙◌, replicate}
use Rattle.table.specs.Words.{table}
use Rattle.call_kernel.specs.ShowsLaws.{sent_some}
use Rattle.call_kernel.proofs.sends_some.Goals as goal

pub returns : goal.returns
returns c = let a = c.args in
    c.bad_words.ensures
    ∙ sent_some a.m.p a.n (table a.r a.s a.table.now) a.column.now (replicate 1024 0) c.apply_words.ensures
