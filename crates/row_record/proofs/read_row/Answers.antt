-- `row_record::read_row` meets its contract.
use Rattle.std.proofs.Common.{refl, ◌∙◌, ◌+◌, ◌*◌, arith}
use Rattle.table.specs.Words.{place}
use Rattle.table.specs.RowFile.{file_word}
use Rattle.row_words.specs.PutLaws.{two_parts}
use Rattle.row_words.specs.RowLaws.{length_half}
use Rattle.row_record.specs.RecordLaws.{record_row}
use Rattle.row_record.proofs.read_row.Goals as goal

pub returns : goal.returns
returns c p pos small =
    let a = c.args in let upper = 1 + c.part_width-upper.result in
    two_parts c.word.result a.out.now _ _ upper (2 * a.r + a.r * a.r) (2 * a.s + a.s * a.s) (length_half _ _ _ _ _ _) (omega arith) (omega arith)
    c.read_part.ensures c.read_part-2.ensures
    ∙ record_row p a.n a.r a.s a.k pos c.requires.0 (file_word a.part.now) 1 (λ κ i j. file_word a.part.now (1 + place a.r a.s κ i j)) (λ κ i j. refl) small
    c.word.result 2 (1 + upper) c.word.ensures refl (omega arith)
