-- A call that refuses a zero pivot: what the modulus, the search and the writers ask of it, and what it answers.
use Rattle.std.specs.Prelude.{◌≢◌, ◌≡◌, refl, ℕ, ◌+◌, ◌*◌, ◌<◌, ◌≤◌, length, drop}
use Rattle.std.proofs.Common.{sym, ap, ◌∙◌, arith}
use mathlib.Core.List.{List, [], ◌∷◌, ◌++◌}
use Rattle.field.specs.Residue.{prime_pos}
use Rattle.field.specs.Fit.{Allowed}
use Rattle.table.specs.Words.{Table, first_bad_place_of}
use Rattle.table.proofs.WordLaws.{place_below, length_table}
use Rattle.table.specs.Results.{first_zero_of, solve_w, work_w, inverse_w}
use Rattle.table.specs.Replies.{Reply, Check, Accepted, NoFault, accept, refuse, answer, after}
use Rattle.table.specs.Calls.{check_pivots, solve_earlier, solve_reply, inverse_earlier, inverse_reply, table_length}
use Rattle.check_numbers.specs.Passed.{Good, solve_passed, inverse_passed}
use Rattle.block.specs.Block.{Within}
use Rattle.check_steps.specs.StepLaws.{here, next, last, first_stop, first_clear, first_accept, first_pass, row_found, row_none}
use Rattle.sweep_solve.specs.SolveSweep.{work_length, solve_length}
use Rattle.table.proofs.CallLaws.{accepted_leaves}
use Rattle.call_solve.specs.PivotCall.{PivotCall}

module _ {P N : ℕ} {A : Table} {cs : List Check} {y x : Reply} (c : PivotCall P N A cs y x) where
  -- a check before the pivots refuses
  pub early_refused : x.number ≢ 0 → (x ≡ y) × (y.number ≢ 0)
  early_refused n = let e = first_stop cs x c.answered n _ (accept 0) ∙ sym c.owed in (e, λ z. n (ap (λ (y : Reply). y.number) e ∙ z))

  module _ (ok : x.number ≡ 0) where
    pub early_clear : NoFault cs
    early_clear = first_clear cs x c.answered c.refuses ok

    pub pivot_prime : Allowed P
    pivot_prime = let g = c.good early_clear in (prime_pos P g.prime, omega (arith, g.limit))

    -- by the modulus that code holds, and the row that its search has found
    module _ (m : ℕ) (e : m ≡ P) where
      pub pivot_good : Good m N A
      pivot_good = rw e (c.good early_clear)

      module _ (row : ℕ) (f : row ≡ first_zero_of m N A) where
        found : row ≡ first_zero_of P N A
        found = f ∙ ap (λ (m : ℕ). first_zero_of m N A) e

        pub zero_refused : {w : Reply} → 0 < row → w ≡ refuse 7 1 row → (w ≡ y) × (y.number ≢ 0)
        zero_refused {w} h q =
            let z = first_pass cs x c.answered c.refuses ok (check_pivots P N A ∷ []) (accept 0)
            (here [] (accept 0) (row_found row (first_zero_of P N A) found h) (q ∙ ap (refuse 7 1) found)) ∙ sym c.owed in
            (z, λ n. seven w.number (ap (λ (y : Reply). y.number) q) (ap (λ (y : Reply). y.number) z ∙ n))
          where
            seven : (n : ℕ) → n ≡ 7 → n ≡ 0 → ⊥
            seven n e z = omega arith

        module _ (h : row ≤ 0) where
          pub none_answers : x ≡ y
          none_answers = first_pass cs x c.answered c.refuses ok (check_pivots P N A ∷ []) (accept 0)
              (next _ [] (accept 0) (row_none row (first_zero_of P N A) found h) (last (first_accept cs x c.answered c.refuses ok))) ∙ sym c.owed

          pub none_accepts : Accepted y
          none_accepts = ap (λ (y : Reply). y.number) (sym none_answers) ∙ ok

-- solve and inverse are such calls
module _ (P N : ℕ) (A : Table) where
  pub solve_call : (b v d : List ℕ) (x : Reply) → x ≡ answer (solve_earlier P N A b v d) (accept 0)
      → PivotCall P N A (solve_earlier P N A b v d) (solve_reply P N A b v d) x
  unfolding solve_reply
  solve_call b v d x e = record { owed = refl; answered = e; refuses = refl; good = λ c. (solve_passed P N A b v d c).0 }

  pub inverse_call : (d : List ℕ) (x : Reply) → x ≡ answer (inverse_earlier P N A d) (accept 0)
      → PivotCall P N A (inverse_earlier P N A d) (inverse_reply P N A d) x
  unfolding inverse_reply
  inverse_call d x e = record { owed = refl; answered = e; refuses = refl; good = λ c. (inverse_passed P N A d c).0 }

-- What solving asks of the column, and what it leaves.
module _ (N : ℕ) (A : Table) (b v d : List ℕ) where
  pub column_reads : (m P : ℕ) → m ≡ P → N ≤ length b → first_bad_place_of P N b ≡ 0 → Within m b 0 N
  column_reads m P e h f k l = let z : 0 + k ≡ k = omega arith in rw (z, e) (omega arith, place_below P N b f k l)

  pub solve_leaves : 1 ≤ N → (m P : ℕ) → m ≡ P → {w out : List ℕ} → w ≡ work_w m N A ++ drop (N * A.upper) v → out ≡ solve_w m N A b ++ drop N d
      → (y : Reply) → Accepted y → (w ≡ after y (work_w P N A) v) × (out ≡ after y (solve_w P N A b) d)
  solve_leaves one m P e {w} {out} f g y ok = (
    accepted_leaves y (work_w P N A) v w _ ok (work_length P N A.lower A.upper A.words one) (rw (← e) f),
    accepted_leaves y (solve_w P N A b) d out _ ok (solve_length P N A b) (rw (← e) g),
  )

-- What inverting leaves.
module _ (N : ℕ) (A : Table) (d : List ℕ) where
  inverse_length : (P : ℕ) → length (inverse_w P N A) ≡ table_length N A
  unfolding inverse_w
  inverse_length P = length_table P N A.lower A.upper _ []

  pub inverse_leaves : (m P : ℕ) → m ≡ P → {out : List ℕ} → out ≡ inverse_w m N A ++ drop (table_length N A) d
      → (y : Reply) → Accepted y → out ≡ after y (inverse_w P N A) d
  inverse_leaves m P e {out} f y ok = accepted_leaves y (inverse_w P N A) d out _ ok (inverse_length P) (rw (← e) f)
