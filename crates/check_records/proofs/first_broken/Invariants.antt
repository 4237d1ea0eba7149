use Rattle.std.proofs.Common.{◌≡◌, ◌-◌, ◌+◌}
use Rattle.lists.specs.Lists.{first_of}
use Rattle.table.specs.RowFile.{met, broken, first_broken_of}
use Rattle.check_records.proofs.first_broken.Given as goal

abbrev pub invariant-loop-k : goal.invariant-loop-k
invariant-loop-k l = record { here : l.m ≡ met l.f l.k; first : first_broken_of l.f ≡ first_of (l.n + 1 - l.k) (broken l.f) l.k }
