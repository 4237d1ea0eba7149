-- The dense solve's reply and buffers, from what its parts answer and leave.
use Rattle.std.specs.Prelude.{Bool, true, false, ◌≢◌, ◌≡◌, ℕ, ◌*◌, drop}
use Rattle.std.proofs.Math.Bool.{not}
use mathlib.Core.List.{List, [], ◌∷◌, ◌++◌}
use Rattle.std.proofs.Common.{inl, inr, ap, ◌∙◌, arith}
use Rattle.std.proofs.Math.Path.{refl, sym}
use Rattle.field.specs.Residue.{prime_pos}
use Rattle.lists.specs.Lists.{tabulate}
use Rattle.lists.specs.ListLaws.{length_tabulate}
use Rattle.field.specs.Fit.{Allowed}
use Rattle.table.specs.Words.{Table}
use Rattle.table.specs.Replies.{Reply, Check, check, accept, refuse, answer}
use Rattle.table.proofs.CallLaws.{number_is, other_number, refused_leaves, accepted_leaves}
use Rattle.table.specs.Undertakings.{GoodTable}
use Rattle.check_numbers.specs.Passed.{Good, good_of}
use Rattle.check_steps.specs.StepLaws.{here, next, last, first_stop, first_clear, first_accept, first_pass}
use Rattle.table_dense.specs.DenseCall.{nonsingular_w, dense_w, dense_earlier, dense_reply, dense_after, square_after_of}
use Rattle.table_dense.specs.DensePromises.{GoodSize, GoodSystem}
use Rattle.table_dense.proofs.DensePromisesProof.{earlier_good, promises}

-- the call replies w and leaves the square sq and the result out
abbrev pub Leaves : (P N : ℕ) (A : Table) (x v d : List ℕ) (w : Reply) (sq out : List ℕ) → Type 0
Leaves P N A x v d w sq out = (w ≡ dense_reply P N A x v d) × ((sq ≡ square_after_of P N A x v d) × (out ≡ dense_after P N A x v d))

-- y is the reply of the checks before the square is in use
pub record Checked (P N : ℕ) (A : Table) (x v d : List ℕ) (y : Reply) : Type 0 where
  pub is : y ≡ answer (dense_earlier P N A x v d) (accept 0)

-- what the parts of the call ask of a table
pub good_system : (P N : ℕ) (A : Table) → GoodSize P N → GoodTable P N A → Good P N A
good_system P N A n = good_of P N A (n.0, n.1, n.2, omega (arith, n.3))

module _ {P N : ℕ} {A : Table} {x v d : List ℕ} {y : Reply} (c : Checked P N A x v d y) where
  abbrev checks : List Check
  checks = dense_earlier P N A x v d

  abbrev last_check : List Check
  last_check = check (not (nonsingular_w P N A)) (refuse 7 1 0) ∷ []

  abbrev the_reply : Reply
  the_reply = dense_reply P N A x v d

  stops : y.number ≢ 0 → y ≡ the_reply
  unfolding dense_reply
  stops n = first_stop checks y c.is n last_check (accept 0)

  -- an earlier check refuses: both buffers are kept
  pub stopped : y.number ≢ 0 → Leaves P N A x v d y v d
  stopped n = (same, (sym ((promises P N A x v d).square_kept refused not_seven), refused_leaves the_reply (dense_w P N A x) d refused))
    where
      same : y ≡ the_reply
      same = stops n

      refused : the_reply.number ≢ 0
      refused z = n (number_is same ∙ z)

      not_seven : the_reply.number ≢ 7
      not_seven z = other_number 7 checks (accept 0) refl (λ q. absurd (omega arith)) (number_is (sym c.is ∙ same) ∙ z)

  module _ (ok : y.number ≡ 0) where
    system : GoodSystem P N A x v d
    system = earlier_good P N A x v d (first_clear checks y c.is refl ok)

    pub fits : Allowed P
    fits = (prime_pos P system.0.0, omega (arith, system.0.1))

    passes : {w : Reply} → w ≡ answer last_check (accept 0) → w ≡ the_reply
    unfolding dense_reply
    passes = first_pass checks y c.is refl ok last_check (accept 0)

    module _ {m : ℕ} (em : m ≡ P) where
      pub ready : GoodSystem m N A x v d
      ready = rw em system

      -- the square is cleared, and the matrix is found nonsingular or not
      module _ {sq : List ℕ} (es : sq ≡ tabulate (N * N) (λ e. 0) ++ drop (N * N) v) {found : Bool} (ef : found ≡ nonsingular_w m N A) where
        is_nonsingular : nonsingular_w P N A ≡ found
        is_nonsingular = sym (ef ∙ ap (λ (m : ℕ). nonsingular_w m N A) em)

        pub solved : found ≡ true → {out : List ℕ} → out ≡ dense_w m N A x ++ drop N d → Leaves P N A x v d y sq out
        unfolding dense_w
        solved f {out} q =
            let e : y ≡ the_reply = passes (next (refuse 7 1 0) [] (accept 0) (ap not (is_nonsingular ∙ f)) (last (first_accept checks y c.is refl ok))) in
            let number : the_reply.number ≡ 0 = number_is (sym e) ∙ ok in (
              e,
              (
                es ∙ sym ((promises P N A x v d).square_zeros (inl number)),
                accepted_leaves the_reply (dense_w P N A x) d out N number (length_tabulate N _) (rw em at q),
              ),
            )

        pub singular : found ≡ false → {w : Reply} → w ≡ refuse 7 1 0 → {out : List ℕ} → out ≡ d → Leaves P N A x v d w sq out
        singular f {w} ew q =
            let e : w ≡ the_reply = passes (here [] (accept 0) (ap not (is_nonsingular ∙ f)) ew) in
            let number : the_reply.number ≡ 7 = number_is (sym e ∙ ew) in
            let not_accepted : the_reply.number ≢ 0 = λ z. absurd (let q : 7 ≡ 0 = sym number ∙ z in omega arith) in (
              e,
              (
                es ∙ sym ((promises P N A x v d).square_zeros (inr number)),
                q ∙ refused_leaves the_reply (dense_w P N A x) d not_accepted,
              ),
            )
