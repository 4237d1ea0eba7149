-- The kernel call's reply and result, from what its parts answer and leave.
use Rattle.std.specs.Prelude.{List, [], ◌∷◌, ◌++◌, ◌≢◌, ◌≡◌, ℕ, ◌<◌, eqb, length, drop}
use Rattle.std.proofs.Math.Path.{refl}
use Rattle.std.proofs.Common.{sym, ap, ◌∙◌, arith, eq-eqb, ne_eqb}
use Rattle.field.specs.Residue.{prime_pos}
use Rattle.lists.specs.ListLaws.{length_tabulate}
use Rattle.field.specs.Fit.{Allowed}
use Rattle.table.specs.Words.{Table}
use Rattle.table.specs.Results.{first_zero_of}
use Rattle.table.specs.Replies.{Reply, Check, check, accept, refuse, answer}
use Rattle.table.proofs.CallLaws.{number_is, refused_leaves, accepted_leaves}
use Rattle.check_numbers.specs.Passed.{Good, good_of}
use Rattle.check_steps.specs.StepLaws.{here, next, last, first_stop, first_clear, first_pass}
use Rattle.table_kernel.specs.KernelCall.{kernel_w, kernel_earlier, kernel_reply, kernel_after}
use Rattle.table_kernel.specs.KernelPromises.{GoodLoan}
use Rattle.sweep_kernel.specs.KernelSweepLaws.{no_words}
use Rattle.table_kernel.proofs.KernelProof.{earlier_good}

-- the call replies w and leaves the result out
abbrev pub Leaves : (P N : ℕ) (A : Table) (d : List ℕ) (w : Reply) (out : List ℕ) → Type 0
Leaves P N A d w out = (w ≡ kernel_reply P N A d) × (out ≡ kernel_after P N A d)

-- y is the reply of the checks before the pivots
pub record Checked (P N : ℕ) (A : Table) (d : List ℕ) (y : Reply) : Type 0 where
  pub is : y ≡ answer (kernel_earlier P N A d) (accept 0)

module _ {P N : ℕ} {A : Table} {d : List ℕ} {y : Reply} (c : Checked P N A d y) where
  abbrev checks : List Check
  checks = kernel_earlier P N A d

  abbrev last_check : List Check
  last_check = check (eqb (first_zero_of P N A) 0) (refuse 13 0 0) ∷ []

  abbrev the_reply : Reply
  the_reply = kernel_reply P N A d

  stops : y.number ≢ 0 → y ≡ the_reply
  unfolding kernel_reply
  stops n = first_stop checks y c.is n last_check (accept (first_zero_of P N A))

  -- an earlier check refuses
  pub stopped : y.number ≢ 0 → Leaves P N A d y d
  stopped n = (stops n, refused_leaves the_reply (kernel_w P N A) d (λ z. n (number_is (stops n) ∙ z)))

  module _ (ok : y.number ≡ 0) where
    pub loan : GoodLoan P N A d
    loan = earlier_good P N A d (first_clear checks y c.is refl ok)

    pub fits : Allowed P
    fits = let g = loan.0 in (prime_pos P g.0, omega (arith, g.1))

    passes : {w : Reply} → w ≡ answer last_check (accept (first_zero_of P N A)) → w ≡ the_reply
    unfolding kernel_reply
    passes = first_pass checks y c.is refl ok last_check (accept (first_zero_of P N A))

    -- by the modulus that code holds, and the row that its sweep has found
    module _ {m : ℕ} (em : m ≡ P) where
      pub ready : Good m N A
      ready = rw em (good_of P N A loan.0 loan.1)

      module _ {row : ℕ} (er : row ≡ first_zero_of m N A) where
        row_is : first_zero_of P N A ≡ row
        row_is = sym (er ∙ ap (λ (m : ℕ). first_zero_of m N A) em)

        module _ {out : List ℕ} (q : out ≡ kernel_w m N A ++ drop row d) where
          pub regular : row ≡ 0 → {w : Reply} → w ≡ refuse 13 0 0 → Leaves P N A d w out
          regular z {w} ew =
              let e : w ≡ the_reply = passes (here [] (accept (first_zero_of P N A)) (eq-eqb (first_zero_of P N A) 0 (row_is ∙ z)) ew) in
              let refused : the_reply.number ≢ 0 = λ n. absurd (let f : 13 ≡ 0 = number_is (sym ew ∙ e) ∙ n in omega arith) in
              (e, q ∙ rw z (sym (no_words m N A d (sym er ∙ z))) ∙ refused_leaves the_reply (kernel_w P N A) d refused)

          words_long : length (kernel_w P N A) ≡ row
          unfolding kernel_w
          words_long = length_tabulate (first_zero_of P N A) _ ∙ row_is

          pub written : 0 < row → {w : Reply} → w ≡ accept row → Leaves P N A d w out
          written h {w} ew =
              let some : eqb (first_zero_of P N A) 0 ≡ eqb 1 0 = ne_eqb (first_zero_of P N A) 0 (λ z. absurd (omega (arith, row_is))) in
              let e : w ≡ the_reply = passes (next (refuse 13 0 0) [] (accept (first_zero_of P N A)) some (last (ew ∙ sym (ap accept row_is)))) in
              (e, accepted_leaves the_reply (kernel_w P N A) d out row (number_is (sym e ∙ ew)) words_long (rw em at q))
