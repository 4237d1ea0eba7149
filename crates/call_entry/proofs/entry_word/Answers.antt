-- `call_entry::entry_word` meets its contract.
use Rattle.sweep_apply.specs.Reads.{lower_sweeps_down, upper_sweeps_up}
use Rattle.call_entry.specs.EntryLaws.{below_yields, above_yields, diagonal_lies, diagonal_yields}
use Rattle.call_entry.proofs.entry_word.Goals as goal

pub entry_below-requires : goal.entry_below-requires
entry_below-requires c =
    (lower_sweeps_down c.args.m c.requires.0 c.row_width-w.ensures c.lower.ensures, c.if-j-i.true, c.requires.1)

pub returns-then-j-i : goal.returns-then-j-i
returns-then-j-i c = let a = c.args in
    below_yields a.m.p a.n a.r a.s a.t.now _ c.row_width-w.ensures.0 a.i a.j _ _ c.lower.ensures c.if-j-i.true c.requires.1 c.entry_below.ensures

pub entry_above-requires : goal.entry_above-requires
entry_above-requires c =
    (upper_sweeps_up c.args.m c.requires.0 c.row_width-w.ensures c.upper.ensures, c.if-i-j.true, c.requires.2)

pub returns-then-i-j : goal.returns-then-i-j
returns-then-i-j c = let a = c.args in
    above_yields a.m.p a.n a.r a.s a.t.now _ c.row_width-w.ensures.0 a.i a.j _ _ c.upper.ensures c.if-i-j.true c.requires.2 c.entry_above.ensures

-- the word on the diagonal
pub bounds-t-i : goal.bounds-t-i
bounds-t-i c = let a = c.args in diagonal_lies a.m.p a.n a.r a.s a.t.now c.requires.0 _ c.row_width-w.ensures a.i c.requires.1

pub returns : goal.returns
returns c = let a = c.args in
    diagonal_yields a.m.p a.n a.r a.s a.t.now c.requires.0 _ c.row_width-w.ensures a.i c.requires.1 a.j c.if-i-j.false c.if-j-i.false
