-- `row_record::write_part` meets its contract.
use Rattle.std.proofs.Common.{get_or}
use Rattle.row_record.specs.RecordLaws.{half_bytes}
use Rattle.row_record.proofs.write_part.Goals as goal

pub returns : goal.returns
returns c =
    let a = c.args in
    half_bytes a.first a.last a.at a.o (λ e. get_or a.row.now e 0) a.from _ _ _ _ c.write_words.ensures c.write_words-2.ensures c.write_words-3.ensures
