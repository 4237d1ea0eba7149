-- `call_apply::apply_transposed_words` meets its contract, as `apply_words` does, by the transposed halves.
use Rattle.std.proofs.Common.{◌≡◌, ap, ◌∙◌}
use Rattle.row_halves.specs.Halves.{lower_half, upper_half, transposed_half}
use Rattle.sweep_apply.specs.Reads.{lower_sweeps_up, upper_sweeps_down}
use Rattle.call_apply.specs.ApplyLaws.{applied_transposed, swept_reads}
use Rattle.call_apply.proofs.apply_transposed_words.Goals.{After-transposed-lower, After-transposed-upper}
use Rattle.call_apply.proofs.apply_transposed_words.Goals as goal

-- the halves that the sweeps go over
lower-half : (c : After-transposed-lower) → c.transposed-lower.result ≡ transposed_half (lower_half c.args.r)
lower-half c = c.transposed-lower.ensures ∙ ap transposed_half c.lower.ensures

upper-half : (c : After-transposed-upper) → c.transposed-upper.result ≡ transposed_half (upper_half c.args.r c.args.s)
upper-half c = c.transposed-upper.ensures ∙ ap transposed_half c.upper.ensures

pub sweep_down-requires : goal.sweep_down-requires
sweep_down-requires c = let upper = upper-half (goal.at.sweep_down-requires c).After-transposed-upper in
    (upper_sweeps_down c.args.m c.requires.0 c.row_width-w.ensures upper, c.requires.1, c.requires.2)

pub sweep_up-requires : goal.sweep_up-requires
sweep_up-requires c = let a = c.args in let lower = lower-half (goal.at.sweep_up-requires c).After-transposed-lower in (
  lower_sweeps_up c.args.m c.requires.0 c.row_width-w.ensures lower,
  c.requires.1,
  swept_reads a.m.p a.n a.res.now _ c.sweep_down.new.res c.sweep_down.ensures a.m.fit.pos c.requires.2,
)

pub returns : goal.returns
returns c = let a = c.args in
    let upper = upper-half (goal.at.returns c).After-transposed-upper in
    let lower = lower-half (goal.at.returns c).After-transposed-lower in
    applied_transposed a.m.p a.n a.r a.s a.table.now a.column.now a.res.now c.sweep_down.new.res c.sweep_up.new.res _ _ _ c.row_width-w.ensures.0
    c.sweep_down.ensures c.sweep_up.ensures upper lower
