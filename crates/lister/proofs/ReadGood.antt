-- What an accepted read of a file leaves: a good table, by the numbers that code reads in the head.
use Rattle.std.specs.Prelude.{◌≡◌, List, ℕ, ◌≤◌, length}
use Rattle.std.proofs.Common.{sym, ap, ◌∙◌, arith}
use Rattle.table.specs.Words.{table}
use Rattle.table.specs.RowFile.{head_p, head_n, head_r, head_s}
use Rattle.table.specs.Replies.{Reply, Accepted, accept}
use Rattle.table.specs.Calls.{read_reply, read_after, read_t}
use Rattle.table.proofs.AcceptsProof.{read_accepts}
use Rattle.table.proofs.FileLaws.{reads_file}
use Rattle.table.proofs.UndertakingsProof.{lengths, values}
use Rattle.check_numbers.specs.Passed.{Good}

module _ (f d : List ℕ) (p : ℕ) (answered : accept p ≡ read_reply f d) where
  accepted : Accepted (read_reply f d)
  accepted = ap (λ (y : Reply). y.number) (sym answered)

  pub read_head : 20 ≤ length f
  read_head = ((read_accepts f d).0 accepted).0

  left_good : Good (head_p f) (head_n f) (read_t f d)
  left_good = let g = (read_accepts f d).0 accepted in record {
    prime = g.1.0;
    limit = g.1.1;
    most = g.1.3;
    lower = g.2.0;
    upper = g.2.1;
    long = omega (arith, g.4, (lengths (head_p f) (head_n f) (read_t f d)).read f d);
    words = (reads_file f d accepted).readable.1;
  }

  -- the reply's value is the prime
  value_prime : p ≡ head_p f
  value_prime = ap (λ (y : Reply). y.value) (answered ∙ (values (head_p f) (head_n f) (read_t f d)).read f d accepted)

  pub read_good : (n r s : ℕ) (out : List ℕ) → n ≡ head_n f → r ≡ head_r f → s ≡ head_s f → out ≡ read_after f d → Good p n (table r s out)
  read_good n r s out en er es e = rw (value_prime, en, er, es, e) left_good
