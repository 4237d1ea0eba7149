-- `call_entry::matrix_row` meets its contract.
use Rattle.std.proofs.Common.{◌≡◌, refl, ap, ◌∙◌, arith, ℕ, ◌≤◌, length, set, length-set}
use Rattle.lists.specs.Lists.{put_at}
use Rattle.row_halves.specs.Halves.{lower_half, upper_half, transposed_half}
use Rattle.sweep_apply.specs.Reads.{lower_sweeps_up, upper_sweeps_down}
use Rattle.call_entry.specs.EntryLaws.{diagonal_lies, diagonal_word}
use Rattle.call_entry.specs.MatrixLaws.{row_word, before_length, all_written, before_leaves, after_leaves}
use Rattle.call_entry.proofs.matrix_row.Goals.{After-fill_before, After-transposed-after, After-transposed-before}
use Rattle.call_entry.proofs.matrix_row.Goals as goal

-- the halves that the walks go over
lower-half : (c : After-transposed-before) → c.transposed-before.result ≡ transposed_half (lower_half c.args.r)
lower-half c = c.transposed-before.ensures ∙ ap transposed_half c.lower-lower.ensures

upper-half : (c : After-transposed-after) → c.transposed-after.result ≡ transposed_half (upper_half c.args.r c.args.s)
upper-half c = c.transposed-after.ensures ∙ ap transposed_half c.upper-upper.ensures

module _ (c : After-fill_before) where
  abbrev words : ℕ → ℕ
  words = let a = c.args in row_word a.m.p a.n a.r a.s a.t.now a.i

  -- after the walk up, the words before i are written
  walked : c.fill_before.new.res ≡ put_at 0 c.args.i words c.args.out.now
  walked = let a = c.args in
      before_leaves a.m.p a.n a.r a.s a.t.now _ c.row_width-w.ensures.0 a.i c.requires.1 _ a.out.now _
      (lower-half (goal.at.After-fill_before c).After-transposed-before) c.fill_before.ensures

  long : length c.fill_before.new.res ≡ c.args.n
  long = before_length c.args.n c.args.i words c.args.out.now _ c.requires.2 c.requires.1 walked

  room : (v : ℕ) → c.args.n ≤ length (set c.fill_before.new.res c.args.i v)
  room v = omega (arith, long, length-set c.fill_before.new.res c.args.i v)

pub fill_before-requires : goal.fill_before-requires
fill_before-requires c = (
  lower_sweeps_up c.args.m c.requires.0 c.row_width-w.ensures (lower-half (goal.at.fill_before-requires c).After-transposed-before),
  c.requires.1,
  omega (arith, c.requires.2),
)

-- the word on the diagonal lies in the table
pub bounds-t-i : goal.bounds-t-i
bounds-t-i c = let a = c.args in diagonal_lies a.m.p a.n a.r a.s a.t.now c.requires.0 _ c.row_width-w.ensures a.i c.requires.1

pub fill_after-requires : goal.fill_after-requires
fill_after-requires c = (
  upper_sweeps_down c.args.m c.requires.0 c.row_width-w.ensures (upper-half (goal.at.fill_after-requires c).After-transposed-after),
  c.requires.1,
  room (goal.at.fill_after-requires c).After-fill_before _,
)

pub returns : goal.returns
returns c = let a = c.args in let b = (goal.at.returns c).After-fill_before in let ew = c.row_width-w.ensures in
    all_written a.n a.i (words b) a.out.now _ c.requires.2 c.requires.1 (walked b) _ _
    (diagonal_word a.m.p a.n a.r a.s a.t.now c.requires.0 _ ew a.i c.requires.1 a.i refl)
    (after_leaves a.m.p a.n a.r a.s a.t.now _ ew.0 a.i c.requires.1 _ _ _ (upper-half (goal.at.returns c).After-transposed-after) c.fill_after.ensures)
