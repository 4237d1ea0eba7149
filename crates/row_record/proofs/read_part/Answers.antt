-- `row_record::read_part` meets its contract.
use Rattle.std.proofs.Common.{◌&&◌, refl, ◌+◌}
use Rattle.algebra.specs.Generators.{pick}
use Rattle.table.specs.RowFile.{file_word}
use Rattle.row_words.specs.PutLaws.{put_half_lem}
use Rattle.row_words.specs.RowLaws.{as_block}
use Rattle.row_record.proofs.read_part.Goals as goal

pub returns : goal.returns
returns c pre d l e =
    let a = c.args in
    put_half_lem a.first a.last a.o _ _ _ pre d _ _ _ _ _ _ _ _ l e c.read_words.ensures c.read_words-2.ensures c.read_words-3.ensures refl refl
    refl (as_block a.o a.o _ (λ j. pick (a.last && a.first) (file_word a.part.now (a.from + a.o + j)) 0) refl) refl
