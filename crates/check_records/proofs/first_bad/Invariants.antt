use Rattle.std.proofs.Common.{◌≡◌, ◌-◌}
use Rattle.lists.specs.Lists.{first_of}
use Rattle.table.specs.RowFile.{met, first_bad_in_file}
use Rattle.check_records.specs.RecordLaws.{bad_met}
use Rattle.check_records.proofs.first_bad.Given as goal

abbrev pub invariant-loop-k : goal.invariant-loop-k
invariant-loop-k l = record { here : l.m ≡ met l.f l.k; first : first_bad_in_file l.f ≡ first_of (l.n - l.k) (bad_met l.f l.p l.n l.r l.s) l.k }
