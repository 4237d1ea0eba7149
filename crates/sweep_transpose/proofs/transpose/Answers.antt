-- `sweep_transpose::transpose` meets its contract.
use Rattle.std.proofs.Common.{◌≡◌, refl, sym, ◌∙◌, ◌+◌, ◌-◌, ◌*◌, arith}
use Rattle.row_words.specs.PutLaws.{row_written}
use Rattle.row_words.specs.RowLaws.{length_transposed, transposed_table}
use Rattle.sweep_transpose.proofs.transpose.Goals as goal

pub loop-k-preserved : goal.loop-k-preserved
loop-k-preserved c = let k = c.loop-k.k in let w = c.row_width-w.result in let z : (k + 1) * w - k * w ≡ k * w + w - k * w = omega arith in
    row_written _ _ (λ k. length_transposed _ _ _ _ _ ∙ sym c.row_width-w.ensures.0) k c.loop-k.invariant (c.transpose_row.ensures ∙ rw z refl)

pub returns : goal.returns
returns c = let z : c.loop-k.k ≡ c.args.n = omega arith in
    λ p pos good. c.loop-k.invariant ∙ rw (z, transposed_table p _ _ _ _ pos good _ c.row_width-w.ensures.0, c.row_width-w.ensures.0) refl
