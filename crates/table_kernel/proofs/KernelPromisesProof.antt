-- The kernel call's check: the proofs; and both calls' promises together.
use Rattle.std.specs.Prelude.{Bool, ◌&&◌, List, ◌↔◌, ◌⊎◌, ◌≡◌, ℕ, ◌+◌, ◌-◌, ◌<◌, ◌≤◌, length, get_or, take, drop}
use Rattle.std.proofs.Math.Bool.{true, false, not}
use Rattle.std.proofs.Common.{inl, inr, ◌∙◌, get_or-drop}
use Rattle.std.proofs.Math.Path.{refl, sym, ap, ap₂}
use native.Mathlib.Omega.{arith}
use Rattle.std.proofs.Math.Decide.{dec_lt}
use Rattle.std.proofs.Math.Dec.{ltb, eqb}
use borrow.Author.Tests.{eqb-true, eq-eqb, not-true}
use Rattle.algebra.specs.Ring.{Ring}
use Rattle.algebra.specs.Matrix.{Matrix, sends, Singular}
use Rattle.algebra.specs.MatrixLaws.{sends_same}
use Rattle.algebra.specs.Generators.{pick}
use Rattle.field.specs.Prime.{Prime}
use Rattle.field.specs.PrimeTest.{and_true}
use Rattle.field.specs.Residue.{residues, res, val, val_inj, val_small, res_one, field, prime_pos}
use Rattle.field.specs.Bridge.{val_zero}
use Rattle.lists.specs.ListLaws.{clash, some_false, false_some, some_same}
use Rattle.table.specs.Limits.{standard, most_prime, most_size, most_order}
use Rattle.table.specs.Words.{Table, matrix_of, first_bad_of, first_bad_place_of, SameColumn}
use Rattle.table.proofs.WordLaws.{words_below, place_below, place_good, place_same, gens_same, first_bad_same, matrix_same}
use Rattle.table.specs.Results.{column, first_zero_of, pivot_w}
use Rattle.table.specs.Replies.{Reply, Check, Accepted, NoFault, cause_at, accept, refuse, answer, short, bad_place_of}
use Rattle.table.specs.Calls.{table_length}
use Rattle.table.proofs.CallLaws.{AllClear, number_is, all_clear, accepts_where, answer_append, open_checks, none_row}
use Rattle.table.proofs.AcceptsProof.{causes as bad_causes}
use Rattle.table.proofs.PackedProof.{Fits, fit_nil, fit_cons, parts, plain, fits_sizes, short_fits, words_fit, column_fits}
use Rattle.table_kernel.specs.KernelCall.{kernel_w, shows, kernel_reply, kernel_after, shows_checks, shows_reply}
use Rattle.table_kernel.specs.KernelPromises.{Shows, GoodLoan, GoodQuestion, ShowsCauses, CheckPromises, KernelUnused}
use Rattle.table_kernel.specs.KernelPromises.{Promises}
use Rattle.table_kernel.proofs.KernelProof.{swept, table_good, kernel}

value_of : {w r : Reply} → w ≡ r → w.value ≡ r.value
value_of = ap (λ (w : Reply). w.value)

-- 1 and 0 are not one value
one_or_other : {X : Type 0} {w : Reply} → w ≡ accept 1 → w ≡ accept 0 → X
one_or_other a b = absurd (let q : ◌≡◌ {A = ℕ} 1 0 = value_of (sym a ∙ b) in omega arith)

module _ (P N : ℕ) (A : Table) (k : ℕ) (x : List ℕ) where
  abbrev K : Ring
  K = residues P

  abbrev M : Matrix K
  M = matrix_of P N A

  abbrev y : Reply
  y = shows_reply P N A k x

  causes : ShowsCauses P N A k x (λ i. cause_at (shows_checks P N A k x) i ≡ false)
  causes = record {
    prime = bad_causes.prime most_prime P;
    size = bad_causes.size most_size N;
    orders = bad_causes.order most_order A.lower A.upper;
    place = bad_causes.place N k;
    table_long = bad_causes.short A.words (table_length N A);
    column_long = bad_causes.short x N;
    table_below = (λ e. (words_below P N A).0 ((none_row (first_bad_of P N A)).0 e), λ h. (none_row (first_bad_of P N A)).1 ((words_below P N A).1 h));
    column_below = (λ e. place_below P N x ((none_row (first_bad_place_of P N x)).0 e), λ h. (none_row (first_bad_place_of P N x)).1 (place_good P N x h));
  }

  pub clear_good : NoFault (shows_checks P N A k x) → GoodQuestion P N A k x
  clear_good z =
      let c = causes in
      let g = table_good P N A (z 0) (z 1) (z 2) (z 4) (z 6) in
      let i = c.place.0 (z 3) in (g.0, g.1, (c.column_long.0 (z 5), c.column_below.0 (z 7)), i.0, i.1)

  good_clear : GoodQuestion P N A k x → AllClear (shows_checks P N A k x)
  good_clear g =
      let c = causes in
      let words : AllClear (drop 6 (shows_checks P N A k x)) = (c.table_below.1 g.1.2, (c.column_below.1 g.2.1, tt)) in
      let others : AllClear (drop 3 (shows_checks P N A k x)) = (c.place.1 (g.3, g.4), (c.table_long.1 g.1.1, (c.column_long.1 g.2.0, words))) in
      (c.prime.1 (g.0.0, g.0.1), (c.size.1 (g.0.2, g.0.3), (c.orders.1 g.1.0, others)))

  accepts : Accepted y ↔ GoodQuestion P N A k x
  unfolding shows_reply
  accepts = accepts_where (shows_checks P N A k x) (accept (pick (shows P N A k x) 1 0)) refl refl clear_good good_clear

  -- what is found decides the value
  decided : GoodQuestion P N A k x → (b : Bool) → shows P N A k x ≡ b → y ≡ accept (pick b 1 0)
  unfolding shows_reply
  decided g b e = open_checks (shows_checks P N A k x) _ (all_clear (shows_checks P N A k x) (good_clear g)) ∙ ap (λ (b : Bool). accept (pick b 1 0)) e

  -- word i of what the corner sends the column to is not 0
  abbrev not_zero : ℕ → Bool
  not_zero i = ltb 0 (val P (sends K k M (column P x) i))

  found : Prime P → (shows P N A k x ≡ true) ↔ Shows P N A k x
  unfolding shows
  found prime = (there, back)
    where
      there : shows P N A k x ≡ true → Shows P N A k x
      there e =
          let z = and_true _ _ e in
          let none = some_false k not_zero (not-true _ z.1) in (
            eqb-true (get_or x (k - 1) 0) 1 z.0,
            λ i h. val_inj P _ _ ((none_row _).0 (none i h) ∙ sym (val_zero P (prime_pos P prime))),
          )

      back : Shows P N A k x → shows P N A k x ≡ true
      back z = ap₂ (λ (a b : Bool). a && not b) (eq-eqb (get_or x (k - 1) 0) 1 z.0)
          (false_some k not_zero (λ i h. ap (λ t. ltb 0 (val P t)) (z.1 i h) ∙ ap (ltb 0) (val_zero P (prime_pos P prime))))

  by_found : (b : Bool) → shows P N A k x ≡ b → GoodQuestion P N A k x
      → ((y ≡ accept 1) × Shows P N A k x) ⊎ ((y ≡ accept 0) × (Shows P N A k x → ⊥))
  by_found true e g = inl (decided g true e, (found g.0.0).0 e)
  by_found false e g = inr (decided g false e, λ z. clash (sym ((found g.0.0).1 z) ∙ e))

  answered : GoodQuestion P N A k x → ((y ≡ accept 1) × Shows P N A k x) ⊎ ((y ≡ accept 0) × (Shows P N A k x → ⊥))
  answered = by_found (shows P N A k x) refl

  yes_is : (y ≡ accept 1) ↔ (GoodQuestion P N A k x × Shows P N A k x)
  yes_is = (there, λ g. decided g.0 true ((found g.0.0.0).1 g.1))
    where
      go : y ≡ accept 1 → ((y ≡ accept 1) × Shows P N A k x) ⊎ ((y ≡ accept 0) × (Shows P N A k x → ⊥)) → Shows P N A k x
      go e (inl z) = z.1
      go e (inr z) = one_or_other e z.0

      there : y ≡ accept 1 → GoodQuestion P N A k x × Shows P N A k x
      there e = let g = accepts.0 (number_is e) in (g, go e (answered g))

  no_is : (y ≡ accept 0) ↔ (GoodQuestion P N A k x × (Shows P N A k x → ⊥))
  no_is = ((λ e. (accepts.0 (number_is e), λ z. one_or_other (yes_is.1 (accepts.0 (number_is e), z)) e)), λ g. go g.1 (answered g.0))
    where
      go : (Shows P N A k x → ⊥) → ((y ≡ accept 1) × Shows P N A k x) ⊎ ((y ≡ accept 0) × (Shows P N A k x → ⊥)) → y ≡ accept 0
      go n (inl z) = absurd (n z.1)
      go n (inr z) = z.0

  yes_or_no : Accepted y → (y ≡ accept 1) ⊎ (y ≡ accept 0)
  yes_or_no ok = go (answered (accepts.0 ok))
    where
      go : ((y ≡ accept 1) × Shows P N A k x) ⊎ ((y ≡ accept 0) × (Shows P N A k x → ⊥)) → (y ≡ accept 1) ⊎ (y ≡ accept 0)
      go (inl z) = inl z.0
      go (inr z) = inr z.0

  -- the word that is 1 is the residue 1
  one_there : get_or x (k - 1) 0 ≡ 1 → column P x (k - 1) ≡ K.one
  one_there e = ap (res P) e ∙ res_one P

  singular : y ≡ accept 1 → Singular K M k
  singular e = let z = yes_is.0 e in
      (column P x, (k - 1, omega (arith, z.0.3), λ q. (field P z.0.0.0).one_ne_zero (sym (one_there z.1.0) ∙ q)), z.1.1)

  only : y ≡ accept 1 → (d : List ℕ) → kernel_reply P N A d ≡ accept k → SameColumn k x (kernel_after P N A d)
  only e d f i h =
      let z = yes_is.0 e in
      let pos = prime_pos P z.0.0.0 in
      let same : column P x i ≡ column P (kernel_after P N A d) i = (kernel P N A d).only k f (column P x) (one_there z.1.0) z.1.1 i h in
      sym (val_small P pos (get_or x i 0) (z.0.2.1 i (omega (arith, z.0.4)))) ∙ ap (val P) same
      ∙ val_small P pos (get_or (kernel_after P N A d) i 0) ((kernel P N A d).residues_written k f i h)

  -- two columns with the same N words
  module _ (x' : List ℕ) (e : SameColumn N x x') (l : short x N ≡ short x' N) where
    shows_same : 1 ≤ k → k ≤ N → shows P N A k x ≡ shows P N A k x'
    unfolding shows
    shows_same a b = ap₂ (λ (v : ℕ) (w : Bool). eqb v 1 && not w) (e (k - 1) (omega arith)) (some_same k _ _ (λ i h. ap (λ t. ltb 0 (val P t))
        (sends_same K k M M (column P x) (column P x') (λ i j hi hj. refl) (λ j h. ap (res P) (e j (omega arith))) i h)))

    by_place : (b : Bool) → bad_place_of N k ≡ b → y ≡ shows_reply P N A k x'
    unfolding shows_reply answer
    by_place true f = rw f
    by_place false f = let z = (bad_causes.place N k).0 f in rw (l, place_same P N x x' e, shows_same z.0 z.1)

  fits : Fits y
  unfolding shows_reply
  fits = fits_sizes P N A standard _ _ (λ l.
      fit_cons _ _ (plain 8 0 0 (omega arith) (omega arith) (omega arith))
      (fit_cons _ _ (short_fits P N A 1 (omega arith)) (fit_cons _ _ (short_fits P N A 3 (omega arith))
      (fit_cons _ _ (words_fit P N A 1 (omega arith) A l) (fit_cons _ _ (column_fits P N A x l) fit_nil)))))
      (λ z. value_fits (shows P N A k x))
    where
      value_fits : (b : Bool) → Fits (accept (pick b 1 0))
      value_fits true = (omega arith, omega arith, omega arith, omega arith)
      value_fits false = (omega arith, omega arith, omega arith, omega arith)

check : (P N : ℕ) (A : Table) (k : ℕ) (x : List ℕ) → CheckPromises P N A k x
check P N A k x = record {
  accepts = accepts P N A k x;
  yes = yes_is P N A k x;
  no = no_is P N A k x;
  yes_or_no = yes_or_no P N A k x;
  singular = singular P N A k x;
  only = only P N A k x;
  surplus = λ x' e l. by_place P N A k x x' e l (bad_place_of N k) refl;
  order = refl;
  causes = causes P N A k x;
  packs = parts (shows_reply P N A k x) (fits P N A k x);
}

-- What the kernel call leaves, asked for the row that it gave.
module _ (P N : ℕ) (A : Table) (d : List ℕ) (k : ℕ) (e : kernel_reply P N A d ≡ accept k) where
  abbrev left : List ℕ
  left = kernel_after P N A d

  loan : GoodLoan P N A d
  loan = (((kernel P N A d).value k).0 e).0

  -- word i after the k-th is kept
  later : (i : ℕ) → k ≤ i → get_or left i 0 ≡ get_or d i 0
  later i h =
      let n : k + (i - k) ≡ i = omega arith in
      let same = ap (λ (l : List ℕ). get_or l (i - k) 0) ((kernel P N A d).later_kept k e) in
      rw n at (sym (get_or-drop k left (i - k) 0) ∙ same ∙ get_or-drop k d (i - k) 0)

  question : ((i : ℕ) → k ≤ i → i < N → get_or d i 0 < P) → GoodQuestion P N A k left
  question small = (
    loan.0,
    loan.1,
    (omega (arith, (kernel P N A d).result_length, loan.2), λ i h. go i h (dec_lt i k)),
    ((kernel P N A d).row k e).0,
    ((kernel P N A d).row k e).1,
  )
    where
      go : (i : ℕ) → i < N → Dec (i < k) → get_or left i 0 < P
      go i h (yes l) = (kernel P N A d).residues_written k e i l
      go i h (no n) = rw (later i (omega arith)) (small i (omega arith) h)

  passes : (shows_reply P N A k left ≡ accept 1) ↔ ((i : ℕ) → k ≤ i → i < N → get_or d i 0 < P)
  passes = (
    (λ f i h l. let g = ((yes_is P N A k left).0 f).0.2.1 i l in rw (later i h) at g),
    λ small. (yes_is P N A k left).1 (question small, (kernel P N A d).shown k e),
  )

  -- only the last check may refuse
  abbrev cs : List Check
  cs = shows_checks P N A k left

  others_clear : NoFault (take 7 cs)
  others_clear =
      let c = causes P N A k left in
      let long : N ≤ length left = omega (arith, (kernel P N A d).result_length, loan.2) in
      let others : AllClear (drop 3 (take 7 cs)) =
      (c.place.1 ((kernel P N A d).row k e), (c.table_long.1 loan.1.1, (c.column_long.1 long, (c.table_below.1 loan.1.2, tt)))) in
      all_clear (take 7 cs) (c.prime.1 (loan.0.0, loan.0.1), (c.size.1 (loan.0.2, loan.0.3), (c.orders.1 loan.1.0, others)))

  or_refused : Accepted (shows_reply P N A k left) ⊎ (shows_reply P N A k left ≡ refuse 5 3 (first_bad_place_of P N left))
  unfolding shows_reply answer
  or_refused = go (ltb 0 (first_bad_place_of P N left)) refl
    where
      value : Reply
      value = accept (pick (shows P N A k left) 1 0)

      decides : (b : Bool) → ltb 0 (first_bad_place_of P N left) ≡ b → shows_reply P N A k left ≡ pick b (refuse 5 3 (first_bad_place_of P N left)) value
      decides b q = answer_append (take 7 cs) (drop 7 cs) value ∙ open_checks (take 7 cs) (answer (drop 7 cs) value) others_clear
          ∙ ap (λ (b : Bool). pick b (refuse 5 3 (first_bad_place_of P N left)) value) q

      go : (b : Bool) → ltb 0 (first_bad_place_of P N left) ≡ b
          → Accepted (shows_reply P N A k left) ⊎ (shows_reply P N A k left ≡ refuse 5 3 (first_bad_place_of P N left))
      go true q = inr (decides true q)
      go false q = inl (number_is (decides false q))

unused : KernelUnused
unfolding kernel_reply kernel_w shows_reply shows first_zero_of pivot_w
unused P N A t u l =
    let g = gens_same P N A t u in
    let f = first_bad_same P N A t u in
    let m = matrix_same P N A t u in ((λ d. (rw (l, f, g), rw (l, f, g))), λ k x. rw (l, f, m))

pub promises : Promises
promises = record {
  swept = swept;
  kernel = kernel;
  check = check;
  passes = λ P N A d k e. (passes P N A d k e, or_refused P N A d k e);
  unused = unused;
}
