-- The check of the kernel call: what its parts ask, and its reply from what they answer.
use Rattle.std.specs.Prelude.{Bool, ◌&&◌, ◌≢◌, ◌≡◌, ℕ, zero, suc, ◌+◌, ◌-◌, ◌≤◌, ltb, leb, get_or, drop}
use Rattle.std.proofs.Math.Bool.{true, false, not}
use mathlib.Core.List.{List, [], ◌++◌}
use Rattle.std.proofs.Common.{ap₂, ◌∙◌, le_trans, mul-le-mul_right, arith, eq-eqb, ne_eqb, lt-ltb, le-ltb, le-leb}
use Rattle.std.proofs.Math.Path.{refl, sym, ap}
use Rattle.std.proofs.Math.Dec.{eqb}
use Rattle.std.proofs.lemmas.Bool.{lt-leb}
use Rattle.algebra.specs.Matrix.{sends}
use Rattle.algebra.specs.MatrixLaws.{sends_same}
use Rattle.algebra.specs.Generators.{pick}
use Rattle.field.specs.Residue.{residues, val, prime_pos}
use Rattle.lists.specs.Lists.{some}
use Rattle.lists.specs.ListLaws.{get_d_here, some_same}
use Rattle.field.specs.Fit.{Allowed}
use Rattle.table.specs.Words.{Table, matrix_of}
use Rattle.table.proofs.Corners.{corner_is, corner_words_lem}
use Rattle.table.specs.Results.{column, apply_w}
use Rattle.table.specs.Replies.{Reply, NoFault, accept, answer}
use Rattle.table.proofs.CallLaws.{open_checks}
use Rattle.check_numbers.specs.Passed.{Good, good_of}
use Rattle.block.specs.Block.{Within}
use Rattle.check_steps.specs.StepLaws.{first_stop, first_clear}
use Rattle.table_kernel.specs.KernelCall.{shows, shows_checks, shows_reply}
use Rattle.table_kernel.specs.KernelPromises.{GoodQuestion}
use Rattle.table_kernel.proofs.KernelPromisesProof.{clear_good}

-- a word that the matrix sends the column to is not 0, of a table of n rows
abbrev pub some_sent : (P n : ℕ) → Table → List ℕ → Bool
some_sent P n A x = some n (λ i. ltb 0 (val P (sends (residues P) n (matrix_of P n A) (column P x) i)))

one_or_more : (v : ℕ) → leb 1 v ≡ ltb 0 v
one_or_more zero = lt-leb 1 0 (omega arith) ∙ sym (le-ltb 0 0 (omega arith))
one_or_more (suc v) = le-leb 1 (suc v) (omega arith) ∙ sym (lt-ltb 0 (suc v) (omega arith))

-- what apply has written tells it
pub sent_some : (P n : ℕ) (A : Table) (x d : List ℕ) {out : List ℕ} → out ≡ apply_w P n A x ++ drop n d
    → some n (λ i. leb 1 (get_or out (0 + i) 0)) ≡ some_sent P n A x
unfolding apply_w
sent_some P n A x d {out} e = some_same n _ _ (λ i h.
    let z : 0 + i ≡ i = omega arith in
    one_or_more (get_or out (0 + i) 0) ∙ ap (λ (j : ℕ). ltb 0 (get_or out j 0)) z
    ∙ ap (ltb 0) (ap (λ (l : List ℕ). get_or l i 0) e ∙ get_d_here n _ (drop n d) i h))

-- the first k rows of a good table are a good table
good_corner : (P k N : ℕ) (A : Table) → k ≤ N → Good P N A → Good P k A
good_corner P k N A h g = record {
  prime = g.prime;
  limit = g.limit;
  most = le_trans h g.most;
  lower = g.lower;
  upper = g.upper;
  long = le_trans (mul-le-mul_right _ h) g.long;
  words = corner_words_lem P k N A h g.words;
}

-- y is the reply of the checks
pub record Asked (P N : ℕ) (A : Table) (k : ℕ) (x : List ℕ) (y : Reply) : Type 0 where
  pub is : y ≡ answer (shows_checks P N A k x) (accept 0)

module _ {P N : ℕ} {A : Table} {k : ℕ} {x : List ℕ} {y : Reply} (c : Asked P N A k x y) where
  -- the leading k by k corner sends the column to something else than zeros
  abbrev corner_some : Bool
  corner_some = some k (λ i. ltb 0 (val P (sends (residues P) k (matrix_of P N A) (column P x) i)))

  pub stopped : y.number ≢ 0 → y ≡ shows_reply P N A k x
  unfolding shows_reply
  stopped n = first_stop (shows_checks P N A k x) y c.is n [] (accept (pick (shows P N A k x) 1 0))

  module _ (ok : y.number ≡ 0) where
    clear : NoFault (shows_checks P N A k x)
    clear = first_clear (shows_checks P N A k x) y c.is refl ok

    pub question : GoodQuestion P N A k x
    question = clear_good P N A k x clear

    pub fits : Allowed P
    fits = let g = question.0 in (prime_pos P g.0, omega (arith, g.1))

    answered : (b : Bool) → shows P N A k x ≡ b → {w : Reply} → w ≡ accept (pick b 1 0) → w ≡ shows_reply P N A k x
    unfolding shows_reply
    answered b f q = q ∙ ap (λ (b : Bool). accept (pick b 1 0)) (sym f) ∙ sym (open_checks (shows_checks P N A k x) (accept (pick (shows P N A k x) 1 0)) clear)

    -- the k-th word is not 1
    pub other_word : get_or x (k - 1) 0 ≢ 1 → {w : Reply} → w ≡ accept 0 → w ≡ shows_reply P N A k x
    unfolding shows
    other_word n = answered false (ap (λ (b : Bool). b && not corner_some) (ne_eqb (get_or x (k - 1) 0) 1 n))

    -- by the modulus that code holds
    module _ {m : ℕ} (em : m ≡ P) where
      pub corner_good : Good m k A
      corner_good = rw em (good_corner P k N A question.4 (good_of P N A question.0 question.1))

      pub corner_reads : Within m x 0 k
      corner_reads j h =
          let z : 0 + j ≡ j = omega arith in
          let n = question.4 in rw (z, em) (omega (arith, question.2.0), question.2.1 j (omega arith))

      -- b is what the first k rows tell
      module _ {b : Bool} (eb : b ≡ some_sent m k A x) where
        in_table : b ≡ corner_some
        in_table = eb ∙ ap (λ (m : ℕ). some_sent m k A x) em ∙ some_same k _ _ (λ i h. ap (λ (v : (residues P).car). ltb 0 (val P v))
            (sends_same (residues P) k (matrix_of P k A) (matrix_of P N A) (column P x) (column P x) (corner_is P k N A question.4) (λ j l. refl) i h))

        pub not_zeros : b ≡ true → {w : Reply} → w ≡ accept 0 → w ≡ shows_reply P N A k x
        unfolding shows
        not_zeros f = answered false (ap (λ (s : Bool). eqb (get_or x (k - 1) 0) 1 && not s) (sym in_table ∙ f) ∙ and_false (eqb (get_or x (k - 1) 0) 1))
          where
            and_false : (a : Bool) → (a && false) ≡ false
            and_false true = refl
            and_false false = refl

        pub zeros : get_or x (k - 1) 0 ≡ 1 → b ≡ false → {w : Reply} → w ≡ accept 1 → w ≡ shows_reply P N A k x
        unfolding shows
        zeros one f = answered true (ap₂ (λ (a s : Bool). a && not s) (eq-eqb (get_or x (k - 1) 0) 1 one) (sym in_table ∙ f))
