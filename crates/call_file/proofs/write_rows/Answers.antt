-- `call_file::write_rows` meets its contract. The loop's invariant: k records are written.
use Rattle.std.proofs.Common.{refl, sym, ap, ◌∙◌, ℕ, ◌+◌, ◌-◌, ◌*◌, ◌≡◌, arith}
use Rattle.row_words.specs.PutLaws.{row_written}
use Rattle.call_file.specs.WriteLaws.{record_of, next_last, next_more, length_record, record_lent}
use Rattle.call_file.proofs.write_rows.Goals.{else-k-n, then-k-n}
use Rattle.call_file.proofs.write_rows.Goals as goal

pub loop-k-preserved : goal.loop-k-preserved
loop-k-preserved c p pos good =
    let a = c.args in let k = c.loop-k.k in let w = c.row_width-w in
    let z : (k + 1) * w.result - k * w.result ≡ k * w.result + w.result - k * w.result = omega arith in
    row_written (record_of p a.n a.r a.s a.t.now) a.out.now
    (λ m. length_record p a.n a.r a.s a.t.now m ∙ ap (λ (x : ℕ). 4 * (1 + x)) (sym w.ensures.0)) k (c.loop-k.invariant p pos good)
    (record_lent a.n a.r a.s k a.t.now (k * w.result) w.result w.ensures.0 refl _ _
    (elim c.if-k-n.branch [ then-k-n w ↦ next_last _ _ w.if-k-n.true w.next-is | else-k-n w ↦ next_more _ _ w.if-k-n.false w.next-is ])
    (rw z at c.write_row.ensures) p pos good)
