-- Laws of the checks of a file: its head's numbers and its length.
use Rattle.std.specs.Prelude.{Bool, true, false, not, ◌≡◌, refl, List, ℕ, ◌+◌, ◌*◌, ◌≤◌, eqb, leb, length}
use Rattle.std.proofs.Common.{sym, ◌∙◌, mul-le-mul, arith, leb-true, eqb-true}
use Rattle.lists.specs.ListLaws.{clash}
use Rattle.table.specs.Limits.{standard, most_size, most_width}
use Rattle.table.specs.Words.{width}
use Rattle.table.specs.Replies.{bad_size_of, bad_order}
use Rattle.table.specs.RowFile.{file_bytes, head_n, head_r, head_s}
use Rattle.table.proofs.CallLaws.{both_hold}
use Rattle.check_steps.specs.StepLaws.{order_within}
use Rattle.check_records.specs.Filed.{Headed}

-- n rows of w words, and n records
pub rows_few : (n w : ℕ) → n ≤ most_size → w ≤ most_width → n * w ≤ most_size * 161
rows_few n w h l = mul-le-mul {n₁ = n} {m₁ = w} {n₂ = 1024} {m₂ = 161} h l

pub records_few : (n w : ℕ) → n ≤ most_size → w ≤ most_width → n * (1 + w) ≤ most_size * 162
records_few n w h l = mul-le-mul {n₁ = n} {m₁ = 1 + w} {n₂ = 1024} {m₂ = 162} h (omega arith)

-- the head's numbers, once their checks pass
pub headed : (f : List ℕ) (n r s : ℕ) → n ≡ head_n f → r ≡ head_r f → s ≡ head_s f
    → bad_size_of standard.size (head_n f) ≡ false → bad_order standard.order (head_r f) (head_s f) ≡ false → Headed f n r s
headed f n r s en er es size orders = let o = order_within (head_r f) (head_s f) orders in record {
  size = sym en;
  lower = sym er;
  upper = sym es;
  most = rw en (leb-true (head_n f) 1024 (both_hold (leb 1 (head_n f)) (leb (head_n f) standard.size) size).1);
  lower_most = rw er o.0;
  upper_most = rw es o.1;
}

module _ (f : List ℕ) (n r s : ℕ) (h : Headed f n r s) where
  -- the file's bytes and the table's words, as code counts them by a row's width w
  module _ (w : ℕ) (q : w ≡ width r s) where
    pub words_are : n * w ≡ head_n f * width (head_r f) (head_s f)
    words_are = rw (h.size, h.lower, h.upper, q)

    pub bytes_are : 4 * (5 + n * (1 + w)) ≡ file_bytes (head_n f) (head_r f) (head_s f)
    bytes_are = rw (h.size, h.lower, h.upper, q)

  -- the length that has passed its test
  pub length_is : not (eqb (length f) (file_bytes (head_n f) (head_r f) (head_s f))) ≡ false → length f ≡ file_bytes n r s
  length_is e = go (eqb (length f) (file_bytes (head_n f) (head_r f) (head_s f))) refl e
    where
      go : (b : Bool) → eqb (length f) (file_bytes (head_n f) (head_r f) (head_s f)) ≡ b → not b ≡ false → length f ≡ file_bytes n r s
      go true q e = eqb-true (length f) _ q ∙ rw (h.size, h.lower, h.upper)
      go false q e = clash e
