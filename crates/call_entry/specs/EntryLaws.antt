-- Reading one entry: what the three readings yield, and the reply.
use Rattle.std.specs.Prelude.{◌≢◌, ◌≡◌, List, ℕ, ◌+◌, ◌-◌, ◌*◌, ◌<◌, ◌≤◌, length, get_or}
use Rattle.std.proofs.Math.Path.{refl, sym, ap}
use Rattle.std.proofs.Common.{◌∙◌, mul-le-mul, mul-le-mul_right, arith}
use Rattle.field.specs.Residue.{val, val_small, prime_pos}
use Rattle.table.specs.Words.{Table, table, width, matrix_of}
use Rattle.table.specs.Replies.{Reply, accept, answer}
use Rattle.table.specs.Results.{entry_w}
use Rattle.table.specs.Calls.{entry_checks, entry_reply}
use Rattle.table.proofs.CallLaws.{passed, open_checks, refused_by, given}
use Rattle.table.specs.Limits.{most_size, most_width}
use Rattle.check_numbers.specs.Passed.{Good}
use Rattle.row_halves.specs.declared.Half.{Half}
use Rattle.row_halves.specs.Halves.{lower_half, upper_half}
use Rattle.sweep_apply.specs.Reads.{lower_down}
use Rattle.sweep_apply.proofs.Link.{entry_below_is, entry_above_is, entry_diagonal_is}
use Rattle.sweep_entry.specs.Walk.{below_word, above_word}

-- y answers the checks: a refusal is the call's reply; where they pass, the reply has the entry
module _ (P N : ℕ) (A : Table) (i j : ℕ) (y : Reply) (e : y ≡ answer (entry_checks P N A i j) (accept 0)) where
  pub entry_refused : y.number ≢ 0 → y ≡ entry_reply P N A i j
  unfolding entry_reply
  entry_refused n =
      let z = refused_by (entry_checks P N A i j) (accept 0) refl (λ z. n (ap (λ (x : Reply). x.number) e ∙ z)) in
      e ∙ given (entry_checks P N A i j) (accept 0) z.0 z.1 ∙ sym (given (entry_checks P N A i j) (accept (entry_w P N A (i - 1) (j - 1))) z.0 z.1)

  pub entry_accepted : y.number ≡ 0 → entry_reply P N A i j ≡ accept (entry_w P N A (i - 1) (j - 1))
  unfolding entry_reply
  entry_accepted ok = open_checks (entry_checks P N A i j) (accept (entry_w P N A (i - 1) (j - 1)))
      (passed (entry_checks P N A i j) (accept 0) refl (ap (λ (x : Reply). x.number) (sym e) ∙ ok))

-- What the walks yield, over the half that code holds, is the entry.
module _ (P N r s : ℕ) (t : List ℕ) (w : ℕ) (ew : w ≡ width r s) (i j : ℕ) (h : Half) (v : ℕ) where
  pub below_yields : h ≡ lower_half r → j < i → i < N → v ≡ below_word P N w t h i j → v ≡ entry_w P N (table r s t) i j
  unfolding entry_w
  below_yields eh l m e = (rw (ew, eh) at e) ∙ ap (val P) (entry_below_is P r s t N i j l m)

  pub above_yields : h ≡ upper_half r s → i < j → j < N → v ≡ above_word P N w t h i j → v ≡ entry_w P N (table r s t) i j
  unfolding entry_w
  above_yields eh l m e = (rw (ew, eh) at e) ∙ ap (val P) (entry_above_is P r s t N i j l m)

-- The first word of row i lies in the table, and is the entry on the diagonal.
module _ (P N r s : ℕ) (t : List ℕ) (g : Good P N (table r s t)) (w : ℕ) (ew : (w ≡ width r s) × (w ≤ most_width)) (i : ℕ) (h : i < N) where
  pub diagonal_near : i * w ≤ 164864
  diagonal_near = let z : i ≤ most_size = omega (arith, g.most) in mul-le-mul z ew.1

  pub diagonal_lies : i * w < length t
  diagonal_lies = rw ew.0 (let m = mul-le-mul_right (width r s) h in omega (arith, m, g.long))

  pub diagonal_word : (j : ℕ) → i ≡ j → get_or t (i * w) 0 ≡ val P (matrix_of P N (table r s t) i j)
  diagonal_word j e =
      let z : i * width r s ≡ i * width r s + 0 = omega arith in
      rw (ew.0, z) (sym (val_small P (prime_pos P g.prime) _ ((lower_down P N r s t g).diagonal i h).1) ∙ ap (val P) (entry_diagonal_is P r s t N i j e h))

  pub diagonal_yields : (j : ℕ) → j ≤ i → i ≤ j → get_or t (i * w) 0 ≡ entry_w P N (table r s t) i j
  unfolding entry_w
  diagonal_yields j k l = diagonal_word j (omega arith)
