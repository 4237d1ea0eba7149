-- `check_file::check_read` meets its contract.
use Rattle.std.specs.Prelude.{Result, Ok, Err, IsErrAnd, MatchResult, false, ◌≡◌, List, ℕ, ◌≤◌, length}
use Rattle.std.proofs.Common.{le-ltb}
use Rattle.table.specs.Limits.{standard}
use Rattle.table.specs.Replies.{Reply, answer, bad_prime_of, bad_size_of, bad_order}
use Rattle.table.specs.RowFile.{head_p, head_n, head_r, head_s}
use Rattle.table.specs.Calls.{read_checks}
use Rattle.check_numbers.specs.declared.Refusal.{Refusal}
use Rattle.table.proofs.CallLaws.{AllClear}
use Rattle.check_numbers.specs.Replied.{refused}
use Rattle.check_steps.specs.StepLaws.{next}
use Rattle.check_file.specs.FileChecks.{file_checks}
use Rattle.check_file.proofs.check_read.Goals as goal

-- there is a head and its numbers are right: what is left are the checks of the file
module _ (f d : List ℕ) (l : 20 ≤ length f) (p : bad_prime_of standard.prime (head_p f) ≡ false) (n : bad_size_of standard.size (head_n f) ≡ false)
    (o : bad_order standard.order (head_r f) (head_s f) ≡ false) where
  all_right : AllClear (file_checks f d) → AllClear (read_checks f d)
  all_right h = (le-ltb _ 20 l, (p, (n, (o, h))))

  one_wrong : (e : Refusal) → ((v : Reply) → refused e ≡ answer (file_checks f d) v) → (v : Reply) → refused e ≡ answer (read_checks f d) v
  one_wrong e h v = next _ _ v (le-ltb _ 20 l) (next _ _ v p (next _ _ v n (next _ _ v o (h v))))

-- what holds of a refusal that `?` hands on
handed_on : (r : Result ℕ Refusal) (e : Refusal) (P : ℕ → Type 0) (Q : Refusal → Type 0) → IsErrAnd r (λ d. d ≡ e) → Q e → MatchResult r P Q
handed_on (Ok v) e P Q h q = absurd h
handed_on (Err d) e P Q h q = rw h q

pub returns-in_err-check_file : goal.returns-in_err-check_file
returns-in_err-check_file c d e = handed_on _ _ _ _ c.from_residual.ensures.1
    (one_wrong c.args.f.now d c.if-f-lt20.false (cc) (cc) (cc) c.in_err-check_file.field-0.0 (c.in_err-check_file.ensures d e))

pub returns : goal.returns
returns c d e = (c.head_prime-p.ensures, all_right c.args.f.now d c.if-f-lt20.false (cc) (cc) (cc) (c.in_ok-check_file.ensures d e))
