-- `row_record::write_row` meets its contract.
use Rattle.std.proofs.Common.{not, ◌≡◌, refl, ap, ◌∙◌, List, ◌∷◌, ℕ, ◌+◌, ◌*◌, arith, eqb, get_or}
use Rattle.table.specs.Words.{place}
use Rattle.table.specs.RowFile.{bytes_of}
use Rattle.row_words.specs.Rows.{copied_half}
use Rattle.row_words.specs.RowLaws.{length_half}
use Rattle.row_record.specs.RecordLaws.{record_row, record_bytes}
use Rattle.row_record.proofs.write_row.Goals as goal

pub returns : goal.returns
returns c p pos small =
    let a = c.args in let upper = 1 + c.part_width-upper.result in
    let w : ℕ → ℕ = λ e. get_or a.row.now e 0 in
    let below = not (eqb a.k 0) in let above = not (eqb (a.k + 1) a.n) in
    record_bytes a.next (w 0) (1 + upper) (2 * a.r + a.r * a.r) (2 * a.s + a.s * a.s) (copied_half (λ x. x) below above a.r w 1)
    (copied_half (λ x. x) above below a.s w upper) a.out.now _ _ _ _
    (length_half _ _ _ _ _ _) (omega arith) (omega arith) c.put_word.ensures c.put_word-2.ensures c.write_part.ensures c.write_part-2.ensures
    ∙ ap (λ (ws : List ℕ). bytes_of (a.next ∷ ws))
    (record_row p a.n a.r a.s a.k pos c.requires.0 w 0 (λ κ i j. w (place a.r a.s κ i j))
    (λ κ i j. let z : place a.r a.s κ i j ≡ 0 + place a.r a.s κ i j = omega arith in ap w z) small (w 0) 1 upper refl refl (omega arith))
