-- The two applies: what their sweeps leave, and what is left of the result.
use Rattle.std.specs.Prelude.{◌≡◌, List, ◌++◌, ℕ, ◌+◌, ◌*◌, ◌<◌, ◌≤◌, length, get_or, drop}
use Rattle.std.proofs.Common.{refl, ap, ap₂, ◌∙◌, arith, drop_at}
use Rattle.std.proofs.Math.Path.{fun_ext}
use Rattle.algebra.specs.Matrix.{Matrix, sends}
use Rattle.field.specs.Fit.{Allowed}
use Rattle.field.specs.Residue.{residues, res, val, res_val, val_below, prime_pos}
use Rattle.lists.specs.Lists.{tabulate}
use Rattle.lists.specs.ListLaws.{length_tabulate, get_d_here, tabulate_same}
use Rattle.table.specs.Words.{Table, table, width, matrix_of, first_bad_place_of}
use Rattle.table.proofs.WordLaws.{place_below}
use Rattle.table.specs.Replies.{Accepted, accept}
use Rattle.table.specs.Results.{column, apply_w, apply_transposed_w}
use Rattle.table.specs.Calls.{apply_checks, apply_reply, apply_after, apply_transposed_after}
use Rattle.table.proofs.CallLaws.{AllClear, accepted_leaves, written_length}
use Rattle.check_numbers.specs.CheckLaws.{accepts}
use Rattle.check_numbers.specs.Passed.{Good, apply_passed}
use Rattle.block.specs.Block.{along, Within}
use Rattle.row_halves.specs.declared.Half.{Half}
use Rattle.row_halves.specs.Halves.{lower_half, upper_half, transposed_half}
use Rattle.sweep_apply.specs.Half.{down_list, up_list}
use Rattle.sweep_apply.proofs.Link.{apply_is, apply_transposed_is}

-- What a sweep down leaves, and a sweep up after it.
module _ (P n : ℕ) (d : List ℕ) (D : ℕ → (residues P).car) (out : List ℕ) (e : out ≡ tabulate n (λ k. val P (D k)) ++ drop n d) where
  word : (k : ℕ) → k < n → get_or out k 0 ≡ val P (D k)
  word k h = ap (λ (l : List ℕ). get_or l k 0) e ∙ get_d_here n (λ k. val P (D k)) (drop n d) k h

  -- what the sweep down has written may be read and is below P
  pub swept_reads : 0 < P → n ≤ length d → Within P out 0 n
  swept_reads pos h k l =
      let z : 0 + k ≡ k = omega arith in
      rw z (omega (arith, written_length (tabulate n (λ k. val P (D k))) d out n (length_tabulate n _) h e), rw (word k l) (val_below P pos (D k)))

  -- the sweep up adds to it
  two_sweeps : (U S : ℕ → (residues P).car) (out2 : List ℕ) → out2 ≡ tabulate n (λ k. val P ((residues P).add (res P (get_or out k 0)) (U k))) ++ drop n out
      → ((k : ℕ) → k < n → (residues P).add (D k) (U k) ≡ S k) → out2 ≡ tabulate n (λ k. val P (S k)) ++ drop n d
  two_sweeps U S out2 f s = f ∙ ap₂ ◌++◌
      (tabulate_same n _ _ (λ k h. ap (val P) (ap (λ (x : (residues P).car). (residues P).add x (U k)) (ap (res P) (word k h) ∙ res_val P (D k)) ∙ s k h)))
      (ap (drop n) e ∙ drop_at (tabulate n (λ k. val P (D k))) (drop n d) n (length_tabulate n _))

-- the column's words may be read and are below P
pub column_reads : (P N : ℕ) (x : List ℕ) → N ≤ length x → first_bad_place_of P N x ≡ 0 → Within P x 0 N
column_reads P N x h e k l = let z : 0 + k ≡ k = omega arith in rw z (omega arith, place_below P N x e k l)

-- and are the column that the matrix A sends
sends_column : (P N : ℕ) (A : Matrix (residues P)) (x : List ℕ) (k : ℕ) → sends (residues P) N A (along P x 0 1) k ≡ sends (residues P) N A (column P x) k
sends_column P N A x k = ap (λ (v : ℕ → (residues P).car). sends (residues P) N A v k) (fun_ext same)
  where
    same : (k : ℕ) → along P x 0 1 k ≡ column P x k
    same k = let z : 0 + k * 1 ≡ k = omega arith in ap (λ (e : ℕ). res P (get_or x e 0)) z

-- What both sweeps leave, by the width and the halves that code holds.
module _ (P N r s : ℕ) (t x d out out2 : List ℕ) (w : ℕ) (h k : Half) (ew : w ≡ width r s)
    (e : out ≡ down_list P N w t h x d) (f : out2 ≡ up_list P N w t k x out) where
  pub applied : h ≡ lower_half r → k ≡ upper_half r s → out2 ≡ apply_w P N (table r s t) x ++ drop N d
  unfolding apply_w
  applied eh ek =
      let e' : out ≡ down_list P N (width r s) t (lower_half r) x d = rw (ew, eh) at e in
      let f' : out2 ≡ up_list P N (width r s) t (upper_half r s) x out = rw (ew, ek) at f in
      two_sweeps P N d _ out e' _ _ out2 f' (λ i l. apply_is P r s t N (along P x 0 1) i l ∙ sends_column P N (matrix_of P N (table r s t)) x i)

  pub applied_transposed : h ≡ transposed_half (upper_half r s) → k ≡ transposed_half (lower_half r) → out2 ≡ apply_transposed_w P N (table r s t) x ++ drop N d
  unfolding apply_transposed_w
  applied_transposed eh ek =
      let e' : out ≡ down_list P N (width r s) t (transposed_half (upper_half r s)) x d = rw (ew, eh) at e in
      let f' : out2 ≡ up_list P N (width r s) t (transposed_half (lower_half r)) x out = rw (ew, ek) at f in
      two_sweeps P N d _ out e' _ _ out2 f'
      (λ i l. apply_transposed_is P r s t N (along P x 0 1) i l ∙ sends_column P N (λ i j. matrix_of P N (table r s t) j i) x i)

-- what their checks have shown, where none finds anything: what the modulus asks, and the sweeps by the modulus that code holds
module _ (P N : ℕ) (A : Table) (x d : List ℕ) (clear : AllClear (apply_checks P N A x d)) where
  shown : Good P N A × (N ≤ length x) × (N ≤ length d) × (first_bad_place_of P N x ≡ 0)
  unfolding apply_reply
  shown = apply_passed P N A x d (accepts (apply_checks P N A x d) (accept 0) refl clear)

  pub allowed : Allowed P
  allowed = let g = shown.0 in (prime_pos P g.prime, omega (arith, g.limit))

  pub asked : (m : ℕ) → m ≡ P → Good m N A × Within m x 0 N × (N ≤ length d)
  asked m e = rw e (shown.0, column_reads P N x shown.1 shown.3, shown.2)

-- what the calls leave, where their checks have passed; m is the modulus that code holds
module _ (P N : ℕ) (A : Table) (x d out : List ℕ) (m : ℕ) (e : m ≡ P) (ok : Accepted (apply_reply P N A x d)) where
  pub apply_leaves : out ≡ apply_w m N A x ++ drop N d → out ≡ apply_after P N A x d
  unfolding apply_w
  apply_leaves q = accepted_leaves (apply_reply P N A x d) (apply_w P N A x) d out N ok (length_tabulate N _) (rw (← e) q)

  pub apply_transposed_leaves : out ≡ apply_transposed_w m N A x ++ drop N d → out ≡ apply_transposed_after P N A x d
  unfolding apply_transposed_w
  apply_transposed_leaves q = accepted_leaves (apply_reply P N A x d) (apply_transposed_w P N A x) d out N ok (length_tabulate N _) (rw (← e) q)
