-- The reply that a call's answer stands for, and what the checks before its work have to answer.
use Rattle.std.specs.Prelude.{List, ◌≡◌, ℕ, Result, Ok, Err, MatchResult}
use Rattle.table.specs.Replies.{Reply, Check, accept, refuse, answer}
use Rattle.table.proofs.CallLaws.{AllClear}
use Rattle.check_numbers.specs.declared.Refusal.{Refusal}
use Rattle.check_numbers.specs.declared.Refusal.TheVariants.{Prime, Size, Orders, Short, Word, Factor, AddedOrders, ZeroPivot, Singular}
use Rattle.check_numbers.specs.declared.Refusal.TheVariants.{Place, Length, Chain, SamePrimes, NoFraction, NoZeroPivot}

-- the number, the buffer and the row of a refusal, as in the refusal table
abbrev pub refused : Refusal → Reply
refused Prime = refuse 1 0 0
refused Size = refuse 2 0 0
refused (Orders buffer) = refuse 3 buffer 0
refused (Short buffer) = refuse 4 buffer 0
refused (Word buffer row) = refuse 5 buffer row
refused Factor = refuse 5 0 0
refused AddedOrders = refuse 6 0 0
refused (ZeroPivot row) = refuse 7 1 row
refused Singular = refuse 7 1 0
refused Place = refuse 8 0 0
refused Length = refuse 9 6 0
refused (Chain rows) = refuse 10 6 rows
refused SamePrimes = refuse 11 0 0
refused (NoFraction place) = refuse 12 0 place
refused NoZeroPivot = refuse 13 0 0

-- accepted with a value, or refused
abbrev pub replied : Result ℕ Refusal → Reply
replied (Ok value) = accept value
replied (Err refusal) = refused refusal

-- the same for an answer with no value, which stands for the value 0
abbrev pub said : Result (Unit {0}) Refusal → Reply
said (Ok _) = accept 0
said (Err refusal) = refused refusal

-- r answers the checks cs, one after the other: none finds anything; or the first that does refuses, whatever would be answered after them
abbrev pub Checked : List Check → Result (Unit {0}) Refusal → Type 0
Checked cs r = MatchResult r (λ _. AllClear cs) (λ refusal. (v : Reply) → refused refusal ≡ answer cs v)
