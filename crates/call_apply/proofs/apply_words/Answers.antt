-- `call_apply::apply_words` meets its contract: the sweep up reads what the sweep down leaves, and what both leave is what the table sends the column to.
use Rattle.sweep_apply.specs.Reads.{lower_sweeps_down, upper_sweeps_up}
use Rattle.call_apply.specs.ApplyLaws.{applied, swept_reads}
use Rattle.call_apply.proofs.apply_words.Goals as goal

pub sweep_down-requires : goal.sweep_down-requires
sweep_down-requires c = (lower_sweeps_down c.args.m c.requires.0 c.row_width-w.ensures c.lower-lower.ensures, c.requires.1, c.requires.2)

pub sweep_up-requires : goal.sweep_up-requires
sweep_up-requires c = let a = c.args in (
  upper_sweeps_up c.args.m c.requires.0 c.row_width-w.ensures c.upper-upper.ensures,
  c.requires.1,
  swept_reads a.m.p a.n a.res.now _ c.sweep_down.new.res c.sweep_down.ensures a.m.fit.pos c.requires.2,
)

pub returns : goal.returns
returns c = let a = c.args in
    applied a.m.p a.n a.r a.s a.table.now a.column.now a.res.now c.sweep_down.new.res c.sweep_up.new.res _ _ _ c.row_width-w.ensures.0
    c.sweep_down.ensures c.sweep_up.ensures c.lower-lower.ensures c.upper-upper.ensures
