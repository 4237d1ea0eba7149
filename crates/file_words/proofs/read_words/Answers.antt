-- `file_words::read_words` meets its contract.
use Rattle.std.proofs.Common.{◌∙◌, arith}
use Rattle.lists.specs.Writing.{put_none, put_more}
use Rattle.file_words.specs.ByteLaws.{word_used, word_unused}
use Rattle.file_words.proofs.read_words.Goals.{else-used, then-used}
use Rattle.file_words.proofs.read_words.Goals as goal

pub loop-j-init : goal.loop-j-init
loop-j-init c = put_none _ _ _

pub loop-j-preserved : goal.loop-j-preserved
loop-j-preserved c = put_more _ _ _ _ _ _ c.loop-j.invariant
    (elim c.if-used.branch
    [ then-used w ↦ word_used _ w.if-used.true (w.out-is ∙ w.word.ensures) | else-used w ↦ word_unused _ w.if-used.false w.out-is ]) (omega arith)
