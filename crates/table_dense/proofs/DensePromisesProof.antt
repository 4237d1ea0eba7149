-- The proofs of DensePromises.antt.
use Rattle.std.specs.Prelude.{Bool, true, false, ◌||◌, ◌≢◌, ◌↔◌, ◌⊎◌, ◌≡◌, ℕ, ◌+◌, ◌*◌, ◌<◌, ◌≤◌, eqb, length, drop}
use Rattle.std.proofs.Math.Bool.{not}
use mathlib.Core.List.{List, [], ◌∷◌, ◌++◌}
use Rattle.std.proofs.Common.{inl, inr, sym, ap₂, ◌∙◌, length-append, length-drop, drop_at}
use Rattle.std.proofs.Math.Path.{refl, ap}
use native.Mathlib.Omega.{arith}
use Rattle.std.proofs.Math.ListN.{get_or}
use Rattle.std.proofs.Math.Decide.{ℕ_discrete}
use borrow.Author.Tests.{eq-eqb, ne_eqb, lt-leb, le-leb, not-false}
use Rattle.algebra.specs.Ring.{Ring}
use Rattle.algebra.specs.SumLaws.{sum_ext}
use Rattle.algebra.specs.Matrix.{Matrix, sends}
use Rattle.algebra.specs.Generators.{pick}
use Rattle.field.specs.Prime.{Prime}
use Rattle.field.specs.Residue.{residues, res, val, res_val, val_small, val_below, field, prime_pos}
use Rattle.lists.specs.Lists.{tabulate, over}
use Rattle.lists.specs.ListLaws.{clash, length_tabulate, get_d_here, tabulate_same}
use Rattle.table.specs.Limits.{up_to, most_prime, most_order}
use Rattle.table.specs.Words.{Table, with_words, first_bad_of, first_bad_place_of, matrix_of, SameColumn}
use Rattle.table.proofs.WordLaws.{words_below, place_below, place_good, place_same, first_bad_same, matrix_same}
use Rattle.table.specs.Replies.{Reply, Check, Accepted, NoFault, cause_at, check, accept, refuse, answer, after, short}
use Rattle.table.specs.Results.{column}
use Rattle.table.specs.Calls.{table_length, solve_reply, solve_after}
use Rattle.table.proofs.CallLaws.{AllClear, lacks, none_gave, all_clear, value_is, kept, surplus, after_is, after_length, answer_append, open_checks, none_row}
use Rattle.table.proofs.AcceptsProof.{causes as bad_causes}
use Rattle.table.proofs.PackedProof.{Fits, AllFit, fit_nil, fit_cons, parts, plain, zero_fits, fits_sizes, short_fits, words_fit, column_fits}
use Rattle.table.proofs.UndertakingsProof.{first, second, third}
use Rattle.algebra_elimination.specs.Elimination.{nonsingular, solution}
use Rattle.algebra_elimination.proofs.EliminationLaws.{solution_solves, solution_only, nonsingular_exactly}
use Rattle.table_dense.specs.DenseCall.{nonsingular_w, dense_w, dense_earlier, dense_checks, dense_reply, dense_after, square_after_of}
use Rattle.table_dense.specs.DensePromises.{GoodSystem, WholeSingular, DenseCauses, DensePromises, DenseUnused}

module _ (P N : ℕ) (A : Table) (x v d : List ℕ) where
  abbrev K : Ring
  K = residues P

  abbrev M : Matrix K
  M = matrix_of P N A

  abbrev earlier : List Check
  earlier = dense_earlier P N A x v d

  -- the last check
  abbrev end : List Check
  end = check (not (nonsingular_w P N A)) (refuse 7 1 0) ∷ []

  abbrev y : Reply
  y = dense_reply P N A x v d

  -- ---- The checks.

  -- the last one passes where the whole matrix is not singular
  module _ (prime : Prime P) where
    is_nonsingular : (WholeSingular P N A → ⊥) → nonsingular K N M ≡ true
    is_nonsingular n = go (nonsingular K N M) refl
      where
        go : (b : Bool) → nonsingular K N M ≡ b → b ≡ true
        go true e = refl
        go false e = absurd (n ((nonsingular_exactly (field P prime) N M).0 e))

    not_singular : nonsingular K N M ≡ true → WholeSingular P N A → ⊥
    not_singular r s = clash (sym r ∙ (nonsingular_exactly (field P prime) N M).1 s)

    nonsingular_clear : (not (nonsingular_w P N A) ≡ false) ↔ (WholeSingular P N A → ⊥)
    unfolding nonsingular_w
    nonsingular_clear = ((λ e. not_singular (not-false _ e)), λ n. ap not (is_nonsingular n))

  causes : DenseCauses P N A x v d (λ k. cause_at (dense_checks P N A x v d) k ≡ false)
  causes = record {
    prime = bad_causes.prime most_prime P;
    size = bad_causes.size 256 N;
    orders = bad_causes.order most_order A.lower A.upper;
    table_long = bad_causes.short A.words (table_length N A);
    column_long = bad_causes.short x N;
    square_long = bad_causes.short v (N * N);
    result_long = bad_causes.short d N;
    table_below = (λ e. (words_below P N A).0 ((none_row (first_bad_of P N A)).0 e), λ h. (none_row (first_bad_of P N A)).1 ((words_below P N A).1 h));
    column_below = (λ e. place_below P N x ((none_row (first_bad_place_of P N x)).0 e), λ h. (none_row (first_bad_place_of P N x)).1 (place_good P N x h));
    nonsingular = nonsingular_clear;
  }

  -- what the checks before the last one have shown, where they pass
  pub earlier_good : NoFault earlier → GoodSystem P N A x v d
  earlier_good z =
      let c = causes in
      let p = c.prime.0 (z 0) in
      let s = c.size.0 (z 1) in (
        (p.0, p.1, s.0, s.1),
        (c.orders.0 (z 2), c.table_long.0 (z 3), c.table_below.0 (z 7)),
        (c.column_long.0 (z 4), c.column_below.0 (z 8)),
        c.square_long.0 (z 5),
        c.result_long.0 (z 6),
      )

  good_earlier : GoodSystem P N A x v d → NoFault earlier
  good_earlier g =
      let c = causes in
      let words : AllClear (drop 7 earlier) = (c.table_below.1 g.1.2, (c.column_below.1 g.2.1, tt)) in
      let rooms : AllClear (drop 5 earlier) = (c.square_long.1 g.3, (c.result_long.1 g.4, words)) in
      let others : AllClear (drop 3 earlier) = (c.table_long.1 g.1.1, (c.column_long.1 g.2.0, rooms)) in
      all_clear earlier (c.prime.1 (g.0.0, g.0.1), (c.size.1 (g.0.2, g.0.3), (c.orders.1 g.1.0, others)))

  -- the last check decides where the others pass, and they pass where the reply is accepted or has the number 7
  split : y ≡ answer earlier (answer end (accept 0))
  unfolding dense_reply
  split = answer_append earlier end (accept 0)

  decided : GoodSystem P N A x v d → y ≡ pick (not (nonsingular_w P N A)) (refuse 7 1 0) (accept 0)
  unfolding answer
  decided g = split ∙ open_checks earlier (answer end (accept 0)) (good_earlier g)

  good_at : (m : ℕ) → lacks m earlier ≡ true → y.number ≡ m → GoodSystem P N A x v d
  good_at m r e = earlier_good (none_gave m earlier (answer end (accept 0)) r (ap (λ (w : Reply). w.number) (sym split) ∙ e))

  on_nonsingular : GoodSystem P N A x v d → nonsingular K N M ≡ true → y ≡ accept 0
  unfolding nonsingular_w
  on_nonsingular g r = decided g ∙ ap (λ (b : Bool). pick (not b) (refuse 7 1 0) (accept 0)) r

  on_singular : GoodSystem P N A x v d → nonsingular K N M ≡ false → y ≡ refuse 7 1 0
  unfolding nonsingular_w
  on_singular g r = decided g ∙ ap (λ (b : Bool). pick (not b) (refuse 7 1 0) (accept 0)) r

  -- a reply is not accepted and refused with 7
  apart : {X : Type 0} → Accepted y → y ≡ refuse 7 1 0 → X
  apart ok e = absurd (let z : 0 ≡ 7 = sym ok ∙ ap (λ (w : Reply). w.number) e in omega arith)

  accepts : Accepted y ↔ (GoodSystem P N A x v d × (WholeSingular P N A → ⊥))
  accepts = (
    (λ ok. let g = good_at 0 refl ok in (g, λ s. apart ok (on_singular g ((nonsingular_exactly (field P g.0.0) N M).1 s)))),
    λ g. ap (λ (w : Reply). w.number) (on_nonsingular g.0 (is_nonsingular g.0.0.0 g.1)),
  )

  singular : (y ≡ refuse 7 1 0) ↔ (GoodSystem P N A x v d × WholeSingular P N A)
  singular = (there, λ g. on_singular g.0 ((nonsingular_exactly (field P g.0.0.0) N M).1 g.1))
    where
      there : y ≡ refuse 7 1 0 → GoodSystem P N A x v d × WholeSingular P N A
      there e = let g = good_at 7 refl (ap (λ (w : Reply). w.number) e) in (g, go g (nonsingular K N M) refl)
        where
          go : GoodSystem P N A x v d → (b : Bool) → nonsingular K N M ≡ b → WholeSingular P N A
          go g true q = apart (ap (λ (w : Reply). w.number) (on_nonsingular g q)) e
          go g false q = (nonsingular_exactly (field P g.0.0) N M).0 q

  large : Prime P → P ≤ 2147483647 → 256 < N → y ≡ refuse 2 0 0
  unfolding dense_reply answer
  large p l h = let one : 1 ≤ N = omega arith in rw (causes.prime.1 (p, l), le-leb 1 N one, lt-leb N 256 h) refl

  -- ---- The solution.

  solution_long : length (dense_w P N A x) ≡ N
  unfolding dense_w
  solution_long = length_tabulate N _

  module _ (ok : Accepted y) where
    good : GoodSystem P N A x v d
    good = (accepts.0 ok).0

    nonsingular_here : nonsingular K N M ≡ true
    nonsingular_here = is_nonsingular good.0.0 (accepts.0 ok).1

    -- the words of the result
    word_is : (k : ℕ) → k < N → get_or (dense_after P N A x v d) k 0 ≡ val P (solution K N M (column P x) k)
    unfolding dense_w
    word_is k h = ap (λ (l : List ℕ). get_or l k 0) (after_is y (dense_w P N A x) d ok) ∙ get_d_here N _ (drop (length (dense_w P N A x)) d) k h

    column_is : (k : ℕ) → k < N → column P (dense_after P N A x v d) k ≡ solution K N M (column P x) k
    column_is k h = ap (res P) (word_is k h) ∙ res_val P _

    solves : (k : ℕ) → k < N → sends K N M (column P (dense_after P N A x v d)) k ≡ column P x k
    solves k h = sum_ext K N _ _ (λ j l. ap (K.mul (M k j)) (column_is j l)) ∙ solution_solves (field P good.0.0) N M (column P x) nonsingular_here k h

    only : (z : ℕ → K.car) → ((k : ℕ) → k < N → sends K N M z k ≡ column P x k) → (k : ℕ) → k < N → z k ≡ column P (dense_after P N A x v d) k
    only z s k h = solution_only (field P good.0.0) N M (column P x) nonsingular_here z s k h ∙ sym (column_is k h)

    again : first_bad_place_of P N (dense_after P N A x v d) ≡ 0
    again = place_good P N (dense_after P N A x v d) (λ k h. omega (arith, word_is k h, val_below P (prime_pos P good.0.0) (solution K N M (column P x) k)))

    solves_words : (k : ℕ) → k < N → val P (sends K N M (column P (dense_after P N A x v d)) k) ≡ get_or x k 0
    solves_words k h = ap (val P) (solves k h) ∙ val_small P (prime_pos P good.0.0) (get_or x k 0) (good.2.1 k h)

    agrees : (w c : List ℕ) → Accepted (solve_reply P N A x w c) → (k : ℕ) → k < N → get_or (dense_after P N A x v d) k 0 ≡ get_or (solve_after P N A x w c) k 0
    agrees w c ok' k h =
        let e : column P (solve_after P N A x w c) k ≡ solution K N M (column P x) k =
        only (column P (solve_after P N A x w c)) (λ k h. (third P N).solve A x w c ok' k h) k h ∙ column_is k h in
        let below = place_below P N (solve_after P N A x w c) ((second.again P N A).solve x w c ok') k h in
        word_is k h ∙ sym (ap (val P) e) ∙ val_small P (prime_pos P good.0.0) _ below

  no_worse : (w c : List ℕ) → Accepted (solve_reply P N A x w c) → N ≤ 256 → N * N ≤ length v → N ≤ length d → Accepted y
  no_worse w c ok l r s =
      let g = ((first.accepts P N A).solve x w c).0 ok in
      accepts.1 (((g.0.0, g.0.1, g.0.2, l), g.1, g.2, r, s), g.5 N (omega arith))

  -- ---- The square.

  abbrev zeros : List ℕ
  zeros = tabulate (N * N) (λ e. 0)

  abbrev cleared : List ℕ
  cleared = over zeros v

  in_use : (y.number ≡ 0) ⊎ (y.number ≡ 7) → square_after_of P N A x v d ≡ cleared
  in_use (inl e) = ap (λ (b : Bool). pick (b || eqb y.number 7) cleared v) (eq-eqb y.number 0 e)
  in_use (inr e) =
      let n : y.number ≢ 0 = λ z. absurd (let q : 7 ≡ 0 = sym e ∙ z in omega arith) in
      ap₂ (λ (a b : Bool). pick (a || b) cleared v) (ne_eqb y.number 0 n) (eq-eqb y.number 7 e)

  left_alone : y.number ≢ 0 → y.number ≢ 7 → square_after_of P N A x v d ≡ v
  left_alone n m = ap₂ (λ (a b : Bool). pick (a || b) cleared v) (ne_eqb y.number 0 n) (ne_eqb y.number 7 m)

  -- what holds of a square that was left and of one that was in use
  by_use : (Q : List ℕ → Type 0) → Q v → (GoodSystem P N A x v d → Q cleared) → Q (square_after_of P N A x v d)
  by_use Q kept used = go (ℕ_discrete y.number 0) (ℕ_discrete y.number 7)
    where
      go : Dec (y.number ≡ 0) → Dec (y.number ≡ 7) → Q (square_after_of P N A x v d)
      go (yes e) r = rw (in_use (inl e)) (used (good_at 0 refl e))
      go (no n) (yes e) = rw (in_use (inr e)) (used (good_at 7 refl e))
      go (no n) (no m) = rw (left_alone n m) kept

  zeros_long : length zeros ≡ N * N
  zeros_long = length_tabulate (N * N) _

  square_surplus : drop (N * N) (square_after_of P N A x v d) ≡ drop (N * N) v
  square_surplus = by_use (λ l. drop (N * N) l ≡ drop (N * N) v) refl
      (λ g. drop_at zeros _ (N * N) zeros_long ∙ ap (λ (m : ℕ). drop m v) zeros_long)

  square_length : length (square_after_of P N A x v d) ≡ length v
  square_length = by_use (λ l. length l ≡ length v) refl (λ g.
      length-append zeros (drop (length zeros) v) ∙ ap (λ (m : ℕ). length zeros + m) (length-drop (length zeros) v) ∙ omega (arith, zeros_long, g.3))

  -- ---- Words that do not count.

  module _ (x' : List ℕ) (e : SameColumn N x x') (l : short x N ≡ short x' N) where
    reply_same : y ≡ dense_reply P N A x' v d
    unfolding dense_reply
    reply_same = rw (l, place_same P N x x' e)

    words_same : Accepted y → dense_w P N A x ≡ dense_w P N A x'
    unfolding dense_w
    words_same ok = tabulate_same N _ _ (λ k h. ap (val P)
        (solution_only (field P (good ok).0.0) N M (column P x') (nonsingular_here ok) (solution K N M (column P x))
        (λ j q. solution_solves (field P (good ok).0.0) N M (column P x) (nonsingular_here ok) j q ∙ ap (res P) (e j q)) k h))

    result_same : dense_after P N A x v d ≡ dense_after P N A x' v d
    result_same = go (ℕ_discrete y.number 0)
      where
        go : Dec (y.number ≡ 0) → dense_after P N A x v d ≡ dense_after P N A x' v d
        go (yes ok) = ap₂ (λ (r : Reply) (ys : List ℕ). after r ys d) reply_same (words_same ok)
        go (no n) = kept y (dense_w P N A x) d n ∙ sym (kept (dense_reply P N A x' v d) (dense_w P N A x') d (rw reply_same at n))

    all_same : (y ≡ dense_reply P N A x' v d) × (dense_after P N A x v d ≡ dense_after P N A x' v d) × (square_after_of P N A x v d ≡ square_after_of P N A x' v d)
    all_same = (reply_same, result_same, ap (λ (r : Reply). pick (eqb r.number 0 || eqb r.number 7) cleared v) reply_same)

  reply_unread : (v' d' : List ℕ) → short v (N * N) ≡ short v' (N * N) → short d N ≡ short d' N → y ≡ dense_reply P N A x v' d'
  unfolding dense_reply
  reply_unread v' d' a b = rw (a, b)

  -- ---- The reply as one number.

  abbrev room_fits : (b : ℕ) → b < 256 → Fits (refuse 4 b 0)
  room_fits = short_fits P N A

  -- the checks after the first three
  others_fit : N ≤ 256 → AllFit (drop 3 (dense_checks P N A x v d))
  others_fit h =
      let l : N ≤ 1024 = omega arith in
      fit_cons _ _ (room_fits 1 (omega arith)) (fit_cons _ _ (room_fits 3 (omega arith)) (fit_cons _ _ (room_fits 4 (omega arith))
      (fit_cons _ _ (room_fits 5 (omega arith)) (fit_cons _ _ (words_fit P N A 1 (omega arith) A l) (fit_cons _ _ (column_fits P N A x l)
      (fit_cons _ _ (plain 7 1 0 (omega arith) (omega arith) (omega arith)) fit_nil))))))

  fits : Fits y
  unfolding dense_reply
  fits = fits_sizes P N A (up_to 256) _ (accept 0) others_fit (λ z. zero_fits)

pub promises : (P N : ℕ) (A : Table) (x v d : List ℕ) → DensePromises P N A x v d
unfolding dense_reply
promises P N A x v d = record {
  accepts = accepts P N A x v d;
  solves = solves P N A x v d;
  only = only P N A x v d;
  again = again P N A x v d;
  solves_words = solves_words P N A x v d;
  singular = singular P N A x v d;
  large = large P N A x v d;
  order = refl;
  causes = causes P N A x v d;
  square_zeros = λ u. in_use P N A x v d u ∙ ap (λ (m : ℕ). zeros P N A x v d ++ drop m v) (zeros_long P N A x v d);
  square_kept = left_alone P N A x v d;
  square_surplus = square_surplus P N A x v d;
  result_kept = (
    kept (dense_reply P N A x v d) (dense_w P N A x) d,
    surplus (dense_reply P N A x v d) N (dense_w P N A x) d (λ ok. solution_long P N A x v d),
  );
  square_length = square_length P N A x v d;
  result_length = after_length (dense_reply P N A x v d) (dense_w P N A x) d
      (λ ok. omega (arith, solution_long P N A x v d, (good P N A x v d ok).4));
  agrees = agrees P N A x v d;
  no_worse = no_worse P N A x v d;
  surplus = all_same P N A x v d;
  unread = λ v' d' a b. (
    reply_unread P N A x v d v' d' a b,
    λ ok k h.
        word_is P N A x v d ok k h ∙ sym (word_is P N A x v' d' (ap (λ (r : Reply). r.number) (sym (reply_unread P N A x v d v' d' a b)) ∙ ok) k h),
  );
  value = value_is (dense_checks P N A x v d) (accept 0) refl;
  packs = parts (dense_reply P N A x v d) (fits P N A x v d);
}

pub unused : DenseUnused
unfolding dense_reply dense_w nonsingular_w
unused P N A t u l x v d =
    let f : first_bad_of P N A ≡ first_bad_of P N (with_words A t) = first_bad_same P N A t u in
    let m : matrix_of P N A ≡ matrix_of P N (with_words A t) = matrix_same P N A t u in
    (rw (l, f, m), rw (l, f, m), rw (l, f, m))
