-- The kernel call: the proofs.
use Rattle.std.specs.Prelude.{Bool, true, false, List, [], ◌∷◌, ◌++◌, ◌↔◌, ◌≡◌, ℕ, zero, suc, ◌+◌, ◌-◌, ◌<◌, ◌≤◌, ltb, eqb, length, get_or, drop}
use Rattle.std.proofs.Math.Path.{refl, ap}
use Rattle.std.proofs.Common.{sym, ◌∙◌, drop-drop, ne_eqb}
use native.Mathlib.Omega.{arith}
use Rattle.std.proofs.lemmas.Bool.{eqb-false}
use Rattle.algebra.specs.Ring.{Ring}
use Rattle.algebra.specs.Matrix.{Matrix, sends, Singular}
use Rattle.algebra.specs.MatrixLaws.{sends_same}
use Rattle.algebra.specs.Generators.{pick, kernel_g}
use Rattle.algebra.proofs.SingularCorner as Corner
use Rattle.algebra.proofs.SweepTheory.{kernel_shows, kernel_unique}
use Rattle.field.specs.Prime.{Prime}
use Rattle.field.specs.Residue.{residues, res, val, res_val, res_one, val_small, val_below, field, prime_pos}
use Rattle.lists.specs.Lists.{tabulate}
use Rattle.lists.specs.ListLaws.{length_tabulate, get_d_here, first_le}
use Rattle.table.specs.Limits.{standard, most_prime, most_size, most_order}
use Rattle.table.specs.Words.{Table, gap, gens, matrix_of, first_bad_of}
use Rattle.table.proofs.WordLaws.{words_below}
use Rattle.table.specs.Results.{column, column_words, first_zero_of}
use Rattle.table.specs.Replies.{Reply, Check, Accepted, NoFault, cause_at, check, accept, refuse, answer, bad_prime_of, bad_size_of, bad_order, short}
use Rattle.table.specs.Calls.{table_length, solve_earlier, solve_reply, inverse_earlier, inverse_reply, check_pivots}
use Rattle.table.proofs.CallLaws.{AllClear, lacks, number_is, none_gave, all_clear, value_is, kept, surplus, after_is, after_length, answer_append, open_checks}
use Rattle.table.proofs.CallLaws.{none_row}
use Rattle.table.proofs.SingularRow.{least_singular, singular_first, regular_none, none_regular}
use Rattle.table.proofs.AcceptsProof.{causes as bad_causes}
use Rattle.table.proofs.PackedProof.{Fits, fit_nil, fit_cons, parts, plain, fits_sizes, short_fits, words_fit}
use Rattle.table.proofs.UndertakingsProof.{third}
use Rattle.table.specs.Undertakings.{GoodNumbers, GoodTable, NoneSingular}
use Rattle.table_dense.specs.DenseCall.{dense_reply}
use Rattle.table_dense.proofs.DensePromisesProof.{promises as dense_promises}
use Rattle.table_kernel.specs.KernelCall.{kernel_w, kernel_earlier, kernel_checks, kernel_reply, kernel_after}
use Rattle.table_kernel.specs.KernelPromises.{ZeroPivotAt, SentToZeros, Shows, GoodLoan, KernelCauses, KernelPromises, ZeroPivotSwept}

-- what the last check makes of the row of the first zero pivot, 0 for none
abbrev end : ℕ → Reply
end m = pick (eqb m 0) (refuse 13 0 0) (accept m)

end_row : (m : ℕ) → 0 < m → end m ≡ accept m
end_row m h = ap (λ (b : Bool). pick b (refuse 13 0 0) (accept m)) (ne_eqb m 0 (λ e. absurd (omega arith)))

row_of : (m k : ℕ) → end m ≡ accept k → (m ≡ k) × (0 < k)
row_of zero k e = absurd (let q : ◌≡◌ {A = ℕ} 13 0 = number_is e in omega arith)
row_of (suc m) k e = let q : suc m ≡ k = ap (λ (y : Reply). y.value) (sym (end_row (suc m) (omega arith)) ∙ e) in (q, omega arith)

none_of : (m : ℕ) → end m ≡ refuse 13 0 0 → m ≡ 0
none_of zero e = refl
none_of (suc m) e = absurd (let q : ◌≡◌ {A = ℕ} 0 13 = number_is (sym (end_row (suc m) (omega arith)) ∙ e) in omega arith)

pub swept : ZeroPivotSwept
swept P N A prime k = ((λ z. (z.from, singular_first P N A prime k z)), λ e. least_singular P N A prime k e.1 e.0)

module _ (P N : ℕ) (A : Table) where
  abbrev K : Ring
  K = residues P

  abbrev M : Matrix K
  M = matrix_of P N A

  abbrev zero_row : ℕ
  zero_row = first_zero_of P N A

  -- the column, where the first zero pivot is at row k
  abbrev kernel_at : ℕ → ℕ → K.car
  kernel_at k = kernel_g (gap N A.lower) (gap N A.upper) (gens P N A) (k - 1)

  -- ---- The column of a zero pivot at row k, from 1.
  module _ (prime : Prime P) (k : ℕ) (z : ZeroPivotAt P N A k) where
    row_is : k ≡ suc (k - 1)
    row_is = omega (arith, z.from)

    first_zero_lem : Corner.FirstZero (gap N A.lower) (gap N A.upper) (gens P N A) (k - 1)
    unfolding matrix_of
    first_zero_lem = Corner.singular_first (field P prime) _ _ _ N (k - 1) (rw (← row_is) z)

    at_last : kernel_at k (k - 1) ≡ K.one
    at_last = (kernel_shows (field P prime) _ _ _ N (k - 1) first_zero_lem).0

    at_zeros : SentToZeros P N A k (kernel_at k)
    unfolding matrix_of
    at_zeros i h = ap (λ (n : ℕ). sends K n M (kernel_at k) i) row_is ∙ (kernel_shows (field P prime) _ _ _ N (k - 1) first_zero_lem).1 i (omega arith)

    at_only : (y : ℕ → K.car) → y (k - 1) ≡ K.one → SentToZeros P N A k y → (i : ℕ) → i < k → y i ≡ kernel_at k i
    unfolding matrix_of
    at_only y o s i h = kernel_unique (field P prime) _ _ _ N (k - 1) first_zero_lem y o
        (λ i h. ap (λ (n : ℕ). sends K n M y i) (sym row_is) ∙ s i (omega arith)) i (omega arith)

  -- ---- The checks.

  some_row : Prime P → (eqb zero_row 0 ≡ false) ↔ ((k : ℕ) × ZeroPivotAt P N A k)
  some_row prime = (
    (λ e. (zero_row, least_singular P N A prime zero_row refl (omega (arith, eqb-false zero_row 0 e)))),
    λ z. ne_eqb zero_row 0 (λ e. absurd (omega (arith, singular_first P N A prime z.0 z.1, z.1.from))),
  )

  -- the numbers and the table are good where these checks find nothing wrong
  pub table_good : bad_prime_of most_prime P ≡ false → bad_size_of most_size N ≡ false → bad_order most_order A.lower A.upper ≡ false
      → short A.words (table_length N A) ≡ false → ltb 0 (first_bad_of P N A) ≡ false → GoodNumbers P N × GoodTable P N A
  table_good prime size orders long words =
      let p = (bad_causes.prime most_prime P).0 prime in
      let n = (bad_causes.size most_size N).0 size in (
        (p.0, p.1, n.0, n.1),
        (
          (bad_causes.order most_order A.lower A.upper).0 orders,
          (bad_causes.short A.words (table_length N A)).0 long,
          (words_below P N A).0 ((none_row (first_bad_of P N A)).0 words),
        ),
      )

  -- solve's and inverse's 7 at row k
  solve_clear : (x v c : List ℕ) (k : ℕ) → solve_reply P N A x v c ≡ refuse 7 1 k → NoFault (solve_earlier P N A x v c)
  unfolding solve_reply
  solve_clear x v c k e = none_gave 7 (solve_earlier P N A x v c) (answer (check_pivots P N A ∷ []) (accept 0)) refl
      (number_is (sym (answer_append (solve_earlier P N A x v c) (check_pivots P N A ∷ []) (accept 0)) ∙ e))

  inverse_clear : (c : List ℕ) (k : ℕ) → inverse_reply P N A c ≡ refuse 7 1 k → NoFault (inverse_earlier P N A c)
  unfolding inverse_reply
  inverse_clear c k e = none_gave 7 (inverse_earlier P N A c) (answer (check_pivots P N A ∷ []) (accept 0)) refl
      (number_is (sym (answer_append (inverse_earlier P N A c) (check_pivots P N A ∷ []) (accept 0)) ∙ e))

  solve_good : (x v c : List ℕ) → NoFault (solve_earlier P N A x v c) → GoodNumbers P N × GoodTable P N A
  solve_good x v c z = table_good (z 0) (z 1) (z 2) (z 3) (z 7)

  inverse_good : (c : List ℕ) → NoFault (inverse_earlier P N A c) → GoodNumbers P N × GoodTable P N A
  inverse_good c z = table_good (z 0) (z 1) (z 2) (z 3) (z 5)

  -- ---- The call, with the lent result d.
  module _ (d : List ℕ) where
    abbrev y : Reply
    y = kernel_reply P N A d

    abbrev earlier : List Check
    earlier = kernel_earlier P N A d

    causes : KernelCauses P N A d (λ k. cause_at (kernel_checks P N A d) k ≡ false)
    causes = record {
      prime = bad_causes.prime most_prime P;
      size = bad_causes.size most_size N;
      orders = bad_causes.order most_order A.lower A.upper;
      table_long = bad_causes.short A.words (table_length N A);
      result_long = bad_causes.short d N;
      table_below = (λ e. (words_below P N A).0 ((none_row (first_bad_of P N A)).0 e), λ h. (none_row (first_bad_of P N A)).1 ((words_below P N A).1 h));
      zero_pivot = some_row;
    }

    pub earlier_good : NoFault earlier → GoodLoan P N A d
    earlier_good z = let g = table_good (z 0) (z 1) (z 2) (z 3) (z 5) in (g.0, g.1, causes.result_long.0 (z 4))

    good_earlier : GoodLoan P N A d → NoFault earlier
    good_earlier g =
        let c = causes in
        let others : AllClear (drop 3 earlier) = (c.table_long.1 g.1.1, (c.result_long.1 g.2, (c.table_below.1 g.1.2, tt))) in
        all_clear earlier (c.prime.1 (g.0.0, g.0.1), (c.size.1 (g.0.2, g.0.3), (c.orders.1 g.1.0, others)))

    -- the last check decides where the others pass, and they pass where the reply is accepted or has the number 13
    abbrev last_check : List Check
    last_check = check (eqb zero_row 0) (refuse 13 0 0) ∷ []

    split : y ≡ answer earlier (answer last_check (accept zero_row))
    unfolding kernel_reply
    split = answer_append earlier last_check (accept zero_row)

    decided : GoodLoan P N A d → y ≡ end zero_row
    unfolding answer
    decided g = split ∙ open_checks earlier (answer last_check (accept zero_row)) (good_earlier g)

    good_at : (m : ℕ) → lacks m earlier ≡ true → y.number ≡ m → GoodLoan P N A d
    good_at m l e = earlier_good (none_gave m earlier (answer last_check (accept zero_row)) l (number_is (sym split) ∙ e))

    value : (k : ℕ) → (y ≡ accept k) ↔ (GoodLoan P N A d × ZeroPivotAt P N A k)
    value k = (there, λ g. decided g.0 ∙ ap end (singular_first P N A g.0.0.0 k g.1) ∙ end_row k g.1.from)
      where
        there : y ≡ accept k → GoodLoan P N A d × ZeroPivotAt P N A k
        there e =
            let g = good_at 0 refl (number_is e) in
            let q = row_of zero_row k (sym (decided g) ∙ e) in (g, least_singular P N A g.0.0 k q.0 q.1)

    regular : (y ≡ refuse 13 0 0) ↔ (GoodLoan P N A d × NoneSingular P N A)
    regular = (there, λ g. decided g.0 ∙ ap end (none_regular P N A g.0.0.0 g.1))
      where
        there : y ≡ refuse 13 0 0 → GoodLoan P N A d × NoneSingular P N A
        there e = let g = good_at 13 refl (number_is e) in (g, regular_none P N A g.0.0 (none_of zero_row (sym (decided g) ∙ e)))

    is_accepted : Accepted y → y ≡ accept zero_row
    unfolding kernel_reply
    is_accepted ok = value_is (kernel_checks P N A d) (accept zero_row) refl ok

    accepts : Accepted y ↔ (GoodLoan P N A d × ((k : ℕ) × ZeroPivotAt P N A k))
    accepts = (
      (λ ok. let g = (value zero_row).0 (is_accepted ok) in (g.0, (zero_row, g.1))),
      λ g. number_is ((value g.1.0).1 (g.0, g.1.1)),
    )

    -- ---- Where the other calls refuse or accept.

    after_solve : (x v c : List ℕ) (k : ℕ) → solve_reply P N A x v c ≡ refuse 7 1 k → N ≤ length d → y ≡ accept k
    after_solve x v c k e l =
        let z = solve_clear x v c k e in
        let g = solve_good x v c z in (value k).1 ((g.0, g.1, l), ((third P N).solve_singular A x v c z k).0 e)

    after_inverse : (c : List ℕ) (k : ℕ) → inverse_reply P N A c ≡ refuse 7 1 k → N ≤ length d → y ≡ accept k
    after_inverse c k e l =
        let z = inverse_clear c k e in
        let g = inverse_good c z in (value k).1 ((g.0, g.1, l), ((third P N).inverse_singular A c z k).0 e)

    after_dense : (x v c : List ℕ) → dense_reply P N A x v c ≡ refuse 7 1 0 → N ≤ length d → (k : ℕ) × (y ≡ accept k)
    after_dense x v c e l =
        let g = (dense_promises P N A x v c).singular.0 e in
        let s = g.0 in
        let loan : GoodLoan P N A d = ((s.0.0, s.0.1, s.0.2, omega (arith, s.0.3)), s.1, l) in (zero_row, go loan g.1 zero_row refl)
      where
        go : GoodLoan P N A d → Singular K M N → (m : ℕ) → zero_row ≡ m → y ≡ accept zero_row
        go loan z zero q = absurd (regular_none P N A loan.0.0 q N (omega arith) z)
        go loan z (suc m) q = decided loan ∙ end_row zero_row (omega arith)

    where_solved : (x v c : List ℕ) → NoFault (solve_earlier P N A x v c) → N ≤ length d → (y ≡ refuse 13 0 0) ↔ Accepted (solve_reply P N A x v c)
    where_solved x v c z l =
        let g = solve_good x v c z in
        let s = (third P N).solve_accepted A x v c z in ((λ e. s.1 (regular.0 e).1), λ ok. regular.1 ((g.0, g.1, l), s.0 ok))

    where_inverted : (c : List ℕ) → NoFault (inverse_earlier P N A c) → N ≤ length d → (y ≡ refuse 13 0 0) ↔ Accepted (inverse_reply P N A c)
    where_inverted c z l =
        let g = inverse_good c z in
        let s = (third P N).inverse_accepted A c z in ((λ e. s.1 (regular.0 e).1), λ ok. regular.1 ((g.0, g.1, l), s.0 ok))

    -- ---- The words.

    words_long : length (kernel_w P N A) ≡ zero_row
    unfolding kernel_w
    words_long = length_tabulate zero_row _

    row_le : zero_row ≤ N
    unfolding first_zero_of
    row_le = first_le N _

    module _ (k : ℕ) (e : y ≡ accept k) where
      good : GoodLoan P N A d
      good = ((value k).0 e).0

      prime : Prime P
      prime = good.0.0

      pivot : ZeroPivotAt P N A k
      pivot = ((value k).0 e).1

      row_here : zero_row ≡ k
      row_here = singular_first P N A prime k pivot

      words_are : kernel_w P N A ≡ tabulate k (λ i. val P (kernel_at k i))
      unfolding kernel_w
      words_are = ap (λ (m : ℕ). column_words P m (kernel_at m)) row_here

      word_is : (i : ℕ) → i < k → get_or (kernel_after P N A d) i 0 ≡ val P (kernel_at k i)
      word_is i h = ap (λ (t : List ℕ). get_or t i 0) (after_is y (kernel_w P N A) d (number_is e)
          ∙ ap (λ (w : List ℕ). w ++ drop (length (kernel_w P N A)) d) words_are) ∙ get_d_here k (λ i. val P (kernel_at k i)) _ i h

      column_is : (i : ℕ) → i < k → column P (kernel_after P N A d) i ≡ kernel_at k i
      column_is i h = ap (res P) (word_is i h) ∙ res_val P _

      pub shown : Shows P N A k (kernel_after P N A d)
      shown = (
        word_is (k - 1) (omega (arith, pivot.from)) ∙ ap (val P) (at_last prime k pivot ∙ sym (res_one P)) ∙ val_small P (prime_pos P prime) 1 prime.two_le,
        λ i h. sends_same K k M M _ (kernel_at k) (λ i j hi hj. refl) column_is i h ∙ at_zeros prime k pivot i h,
      )

      pub only : (x : ℕ → K.car) → x (k - 1) ≡ K.one → SentToZeros P N A k x → (i : ℕ) → i < k → x i ≡ column P (kernel_after P N A d) i
      only x o z i h = at_only prime k pivot x o z i h ∙ sym (column_is i h)

      pub below : (i : ℕ) → i < k → get_or (kernel_after P N A d) i 0 < P
      below i h = rw (word_is i h) (val_below P (prime_pos P prime) _)

      pub later : drop k (kernel_after P N A d) ≡ drop k d
      later = surplus y k (kernel_w P N A) d (λ ok. words_long ∙ row_here)

    -- the surplus lies behind the later words
    whole : drop N (kernel_after P N A d) ≡ drop N d
    whole =
        let n : zero_row + (N - zero_row) ≡ N = omega (arith, row_le) in
        let kept_rest : drop zero_row (kernel_after P N A d) ≡ drop zero_row d = surplus y zero_row (kernel_w P N A) d (λ ok. words_long) in
        rw n at (sym (drop-drop (N - zero_row) zero_row (kernel_after P N A d)) ∙ ap (drop (N - zero_row)) kept_rest ∙ drop-drop (N - zero_row) zero_row d)

    unread : (d' : List ℕ) → short d N ≡ short d' N → y ≡ kernel_reply P N A d'
    unfolding kernel_reply
    unread d' l = rw l

    fits : Fits y
    unfolding kernel_reply
    fits = fits_sizes P N A standard _ (accept zero_row) (λ l.
        fit_cons _ _ (short_fits P N A 1 (omega arith)) (fit_cons _ _ (short_fits P N A 5 (omega arith)) (fit_cons _ _ (words_fit P N A 1 (omega arith) A l)
        (fit_cons _ _ (plain 13 0 0 (omega arith) (omega arith) (omega arith)) fit_nil))))
        (λ z. (omega arith, omega arith, omega arith, omega (arith, row_le, ((bad_causes.size most_size N).0 (z 1)).1)))

pub kernel : (P N : ℕ) (A : Table) (d : List ℕ) → KernelPromises P N A d
kernel P N A d = record {
  accepts = accepts P N A d;
  value = value P N A d;
  regular = regular P N A d;
  after_solve = after_solve P N A d;
  after_inverse = after_inverse P N A d;
  after_dense = after_dense P N A d;
  where_solved = where_solved P N A d;
  where_inverted = where_inverted P N A d;
  row = λ k e. let z = ((value P N A d k).0 e).1 in (z.from, z.upto);
  residues_written = below P N A d;
  shown = shown P N A d;
  only = only P N A d;
  later_kept = later P N A d;
  result_kept = (kept (kernel_reply P N A d) (kernel_w P N A) d, whole P N A d);
  result_length = after_length (kernel_reply P N A d) (kernel_w P N A) d (λ ok. omega (arith, words_long P N A d, row_le P N A d, ((accepts P N A d).0 ok).0.2));
  unread = λ d' l. (
    unread P N A d d' l,
    λ k e i h. word_is P N A d k e i h ∙ sym (word_is P N A d' k (sym (unread P N A d d' l) ∙ e) i h),
  );
  order = refl;
  causes = causes P N A d;
  packs = parts (kernel_reply P N A d) (fits P N A d);
}
