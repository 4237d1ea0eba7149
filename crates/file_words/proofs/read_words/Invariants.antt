use Rattle.std.proofs.Common.{◌≡◌, ◌+◌}
use Rattle.algebra.specs.Generators.{pick}
use Rattle.lists.specs.Lists.{put_at}
use Rattle.table.specs.RowFile.{file_word}
use Rattle.file_words.proofs.read_words.Given as goal

abbrev pub invariant-loop-j : goal.invariant-loop-j
invariant-loop-j l = l.out ≡ put_at l.at l.j (λ j. pick l.used (file_word l.f (l.from + j)) 0) l.initial.out
