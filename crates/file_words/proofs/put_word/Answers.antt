-- `file_words::put_word` meets its contract.
use Rattle.std.proofs.Common.{◌∙◌}
use Rattle.file_words.specs.ByteLaws.{put_bytes}
use Rattle.file_words.proofs.put_word.Goals as goal

pub returns : goal.returns
returns c = put_bytes c.args.at c.args.w c.args.out.now (c.copy_from_slice.ensures.after ∙ c.to_le_bytes.ensures)
