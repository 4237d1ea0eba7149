-- `file_words::write_words` meets its contract.
use Rattle.std.proofs.Common.{refl}
use Rattle.file_words.specs.ByteLaws.{word_used, word_unused, bytes_more}
use Rattle.file_words.proofs.write_words.Goals.{else-used, then-used}
use Rattle.file_words.proofs.write_words.Goals as goal

pub loop-j-preserved : goal.loop-j-preserved
loop-j-preserved c = bytes_more _ _ _ _ _ _ _ _ c.loop-j.invariant refl
    (elim c.if-used.branch [ then-used w ↦ word_used _ w.if-used.true w.put_word-is | else-used w ↦ word_unused _ w.if-used.false w.put_word-is ])
    c.put_word.ensures
