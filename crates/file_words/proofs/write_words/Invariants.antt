use Rattle.std.proofs.Common.{◌+◌, get_or}
use Rattle.algebra.specs.Generators.{pick}
use Rattle.lists.specs.Lists.{tabulate}
use Rattle.file_words.specs.ByteLaws.{Bytes}
use Rattle.file_words.proofs.write_words.Given as goal

abbrev pub invariant-loop-j : goal.invariant-loop-j
invariant-loop-j l = Bytes l.at l.j (tabulate l.j (λ i. pick l.used (get_or l.t (l.from + i) 0) 0)) l.initial.out l.out
