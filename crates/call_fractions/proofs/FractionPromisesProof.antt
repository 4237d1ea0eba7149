-- The call's promises hold.
use Rattle.std.specs.Prelude.{Bool, true, false, ◌||◌, ◌≢◌, ◌↔◌, ◌≡◌, ltb, ℤ, pos, length}
use Rattle.std.proofs.Math.Path.{refl, ap, ap₂}
use Rattle.std.proofs.Common.{sym, ◌∙◌}
use mathlib.Core.List.{List, ◌∷◌, ◌++◌}
use Prim.Native.Nat.{ℕ, zero, suc, ◌≤◌, ◌<◌}
use native.Mathlib.Omega.{arith}
use Rattle.std.proofs.Math.Dec.{eqb}
use Rattle.std.proofs.Math.ListN.{get_or}
use borrow.Author.Tests.{ltb-false, le-ltb, lt-ltb, eqb-true, eqb-false, eq-eqb, ne_eqb}
use Rattle.algebra.specs.Generators.{pick}
use Rattle.lists.specs.ListLaws.{or_false, length_tabulate, get_d_front, tabulate_same, first_with, none_with, first_le, same_first}
use Rattle.table.specs.Limits.{standard}
use Rattle.table.specs.Words.{first_bad_place_of, SameColumn}
use Rattle.table.proofs.WordLaws.{place_below, place_good, place_le, place_same}
use Rattle.table.specs.Replies.{Reply, Check, check, Accepted, NoFault, cause_at, accept, refuse, answer, after, short, bad_prime_of, bad_size_of}
use Rattle.table.specs.Calls.{check_short}
use Rattle.table.proofs.CallLaws.{AllClear, other_number, passed, open_checks, all_clear, value_is, answer_append, none_row}
use Rattle.table.proofs.CallLaws.{kept, after_is, surplus, after_length}
use Rattle.table.specs.Undertakings.{GoodColumn}
use Rattle.table.proofs.AcceptsProof.{causes as bad_causes}
use Rattle.table.proofs.PackedProof.{Fits, AllFit, fit_nil, fit_cons, parts, fits_answer, plain, zero_fits, size_is}
use Rattle.field_fractions.specs.Fraction.{Fraction, numerator, denominator}
use Rattle.field_fractions.proofs.FractionLaws.{bound_square, bound_most, bound_word, unique}
use Rattle.field_fractions.proofs.SearchLaws.{none, found, none_found}
use Rattle.call_fractions.specs.FractionCall.{largest_prime, number_checks, length_checks, residue_checks, fraction_check, fractions_earlier, fractions_checks}
use Rattle.call_fractions.specs.FractionCall.{numerators_w, denominators_w, first_without_of, fractions_reply, numerators_after_of, denominators_after_of}
use Rattle.call_fractions.specs.FractionPromises.{LargestBound, BoundFits, AtMostOne, HasFraction, AllHave, FirstFailing}
use Rattle.call_fractions.specs.FractionPromises.{GoodPrimes, GoodResidues, FractionCauses, FractionPromises}

pub largest_bound : LargestBound
largest_bound M h = (bound_square M h, λ k. bound_most M k h)

pub bound_fits : BoundFits
bound_fits P Q hp hq = bound_word P Q (omega arith) (omega arith)

pub at_most_one : AtMostOne
at_most_one P Q p q ne x y n d n' d' f g = unique p q ne x y f g

-- ---- Places.

module _ (P Q N : ℕ) (x y : List ℕ) where
  -- the numerator and the denominator that the definition names at place k
  abbrev numerator_at : ℕ → ℤ
  numerator_at k = numerator P Q (get_or x k 0) (get_or y k 0)

  abbrev denominator_at : ℕ → ℕ
  denominator_at k = denominator P Q (get_or x k 0) (get_or y k 0)

  -- a place has a fraction where that denominator is not 0
  one_at : (k : ℕ) → denominator_at k ≢ 0 → Fraction P Q (get_or x k 0) (get_or y k 0) (numerator_at k) (denominator_at k)
  one_at k h = found P Q (get_or x k 0) (get_or y k 0) (positive (denominator_at k) h)
    where
      positive : (m : ℕ) → m ≢ 0 → 1 ≤ m
      positive zero e = absurd (e refl)
      positive (suc m) e = omega arith

  has_one : (k : ℕ) → denominator_at k ≢ 0 → HasFraction P Q x y k
  has_one k h = (numerator_at k, denominator_at k, one_at k h)

  not_zero : (k : ℕ) → HasFraction P Q x y k → denominator_at k ≢ 0
  not_zero k f e = none P Q (get_or x k 0) (get_or y k 0) e f.0 f.1 f.2

  is_zero : (k : ℕ) → (HasFraction P Q x y k → ⊥) → denominator_at k ≡ 0
  is_zero k h = (none_found P Q (get_or x k 0) (get_or y k 0) (λ n d f. h (n, d, f))).1

  abbrev Without : ℕ → Type 0
  Without k = (k < N) × (denominator_at k ≡ 0)

  tells : (k : ℕ) → k < N → (eqb (denominator_at k) 0 ≡ true) ↔ Without k
  tells k h = (λ e. (h, eqb-true (denominator_at k) 0 e), λ z. eq-eqb (denominator_at k) 0 z.1)

  first_is : (k : ℕ) → (first_without_of P Q N x y ≡ suc k) ↔ (Without k × ((m : ℕ) → m < k → Without m → ⊥))
  unfolding first_without_of
  first_is = first_with N (λ k. eqb (denominator_at k) 0) Without tells (λ k z. z.0)

  -- the last check passes where each place has a fraction
  all_have : (first_without_of P Q N x y ≡ 0) ↔ AllHave P Q N x y
  unfolding first_without_of
  all_have =
      let z = none_with N (λ k. eqb (denominator_at k) 0) Without tells (λ k z. z.0) in
      (λ e k h. has_one k (λ w. z.0 e k (h, w)), λ f. z.1 (λ k w. not_zero k (f k w.0) w.1))

  without_le : first_without_of P Q N x y ≤ N
  unfolding first_without_of
  without_le = first_le N (λ k. eqb (denominator_at k) 0)

-- ---- The checks.

places : (R N : ℕ) (z : List ℕ) → (ltb 0 (first_bad_place_of R N z) ≡ false) ↔ ((k : ℕ) → k < N → get_or z k 0 < R)
places R N z = (λ e. place_below R N z ((none_row (first_bad_place_of R N z)).0 e), λ h. (none_row (first_bad_place_of R N z)).1 (place_good R N z h))

module _ (P Q N : ℕ) (x y : List ℕ) (ns : List ℤ) (ds : List ℕ) where
  abbrev earlier : List Check
  earlier = fractions_earlier P Q N x y ns ds

  abbrev y₀ : Reply
  y₀ = fractions_reply P Q N x y ns ds

  abbrev last : Reply
  last = answer (fraction_check P Q N x y) (accept 0)

  -- what each check asks for
  long {ℓ} : {X : Type ℓ} (l : List X) → (short l N ≡ false) ↔ (N ≤ length l)
  long l = (ltb-false (length l) N, le-ltb (length l) N)

  both_primes : (bad_prime_of largest_prime P || bad_prime_of largest_prime Q) ≡ false ↔ GoodPrimes P Q
  both_primes = (there, back)
    where
      there : (bad_prime_of largest_prime P || bad_prime_of largest_prime Q) ≡ false → GoodPrimes P Q
      there e =
          let o = or_false (bad_prime_of largest_prime P) (bad_prime_of largest_prime Q) e in
          let p = (bad_causes.prime largest_prime P).0 o.0 in
          let q = (bad_causes.prime largest_prime Q).0 o.1 in
          (p.0, p.1, q.0, q.1)

      back : GoodPrimes P Q → (bad_prime_of largest_prime P || bad_prime_of largest_prime Q) ≡ false
      back g = rw ((bad_causes.prime largest_prime P).1 (g.0, g.1), (bad_causes.prime largest_prime Q).1 (g.2, g.3))

  last_clear : (ltb 0 (first_without_of P Q N x y) ≡ false) ↔ AllHave P Q N x y
  last_clear = let w = first_without_of P Q N x y in
      (λ e. (all_have P Q N x y).0 ((none_row w).0 e), λ h. (none_row w).1 ((all_have P Q N x y).1 h))

  causes : FractionCauses P Q N x y ns ds (λ k. cause_at (fractions_checks P Q N x y ns ds) k ≡ false)
  causes = record {
    primes = both_primes;
    apart = (eqb-false P Q, ne_eqb P Q);
    size = bad_causes.size standard.size N;
    first_long = long x;
    second_long = long y;
    numerators_long = long ns;
    denominators_long = long ds;
    first_below = places P N x;
    second_below = places Q N y;
    fractions = last_clear;
  }

  earlier_good : NoFault earlier → GoodResidues P Q N x y ns ds
  earlier_good z =
      let c = causes in
      let s = c.size.0 (z 2) in
      let first : GoodColumn P N x = (c.first_long.0 (z 3), c.first_below.0 (z 7)) in
      let second : GoodColumn Q N y = (c.second_long.0 (z 4), c.second_below.0 (z 8)) in
      (c.primes.0 (z 0), c.apart.0 (z 1), s.0, s.1, first, second, c.numerators_long.0 (z 5), c.denominators_long.0 (z 6))

  good_earlier : GoodResidues P Q N x y ns ds → NoFault earlier
  good_earlier h =
      let c = causes in
      let residues : AllClear (residue_checks P Q N x y) = (c.first_below.1 h.4.1, (c.second_below.1 h.5.1, tt)) in
      let room : AllClear (check_short 4 ns N ∷ check_short 5 ds N ∷ residue_checks P Q N x y) =
      (c.numerators_long.1 h.6, (c.denominators_long.1 h.7, residues)) in
      let others : AllClear (length_checks N x y ns ds ++ residue_checks P Q N x y) = (c.first_long.1 h.4.0, (c.second_long.1 h.5.0, room)) in
      all_clear earlier (c.primes.1 h.0, (c.apart.1 h.1, (c.size.1 (h.2, h.3), others)))

  -- where the others pass, the last one decides
  reply_last : GoodResidues P Q N x y ns ds → y₀ ≡ last
  unfolding fractions_reply
  reply_last g = answer_append earlier (fraction_check P Q N x y) (accept 0) ∙ open_checks earlier last (good_earlier g)

  accepts : Accepted y₀ ↔ (GoodResidues P Q N x y ns ds × AllHave P Q N x y)
  unfolding fractions_reply
  accepts = (there, back)
    where
      there : Accepted y₀ → GoodResidues P Q N x y ns ds × AllHave P Q N x y
      there ok =
          let z = passed (fractions_checks P Q N x y ns ds) (accept 0) refl ok in
          let e = answer_append earlier (fraction_check P Q N x y) (accept 0) in
          (earlier_good (passed earlier last refl (ap (λ (r : Reply). r.number) (sym e) ∙ ok)), last_clear.0 (z 9))

      back : GoodResidues P Q N x y ns ds × AllHave P Q N x y → Accepted y₀
      back g =
          let z = all_clear (fraction_check P Q N x y) (last_clear.1 g.1, tt) in
          ap (λ (r : Reply). r.number) (reply_last g.0 ∙ open_checks (fraction_check P Q N x y) (accept 0) z)

  last_at : (v k : ℕ) → v ≡ first_without_of P Q N x y → (last ≡ refuse 12 0 (suc k)) ↔ (v ≡ suc k)
  unfolding answer
  last_at zero k e = rw (← e) (λ q. absurd (let z : 0 ≡ 12 = ap (λ (r : Reply). r.number) q in omega arith), λ q. absurd (omega arith))
  last_at (suc v) k e = rw (← e, lt-ltb 0 (suc v) (omega arith)) (λ q. ap (λ (r : Reply). r.row) q, λ q. ap (refuse 12 0) q)

  without : GoodResidues P Q N x y ns ds → (k : ℕ) → (y₀ ≡ refuse 12 0 (suc k)) ↔ FirstFailing P Q N x y k
  without g k = (there, back)
    where
      at : (last ≡ refuse 12 0 (suc k)) ↔ (first_without_of P Q N x y ≡ suc k)
      at = last_at (first_without_of P Q N x y) k refl

      there : y₀ ≡ refuse 12 0 (suc k) → FirstFailing P Q N x y k
      there e =
          let z = (first_is P Q N x y k).0 (at.0 (sym (reply_last g) ∙ e)) in
          (z.0.0, λ f. not_zero P Q N x y k f z.0.1, λ m l. has_one P Q N x y m (λ w. z.1 m l (omega (arith, z.0.0), w)))

      back : FirstFailing P Q N x y k → y₀ ≡ refuse 12 0 (suc k)
      back z = reply_last g ∙ at.1 ((first_is P Q N x y k).1 ((z.0, is_zero P Q N x y k z.1), λ m l w. not_zero P Q N x y m (z.2 m l) w.1))

  -- the checks after the first two give another number than 11
  equal : (y₀ ≡ refuse 11 0 0) ↔ (GoodPrimes P Q × (P ≡ Q))
  unfolding fractions_reply answer
  equal = (go (bad_prime_of largest_prime P || bad_prime_of largest_prime Q) (eqb P Q) refl refl, λ g. rw (both_primes.1 g.0, eq-eqb P Q g.1))
    where
      others : List Check
      others = check (bad_size_of standard.size N) (refuse 2 0 0) ∷ ((length_checks N x y ns ds ++ residue_checks P Q N x y) ++ fraction_check P Q N x y)

      go : (a b : Bool) → (bad_prime_of largest_prime P || bad_prime_of largest_prime Q) ≡ a → eqb P Q ≡ b
          → pick a (refuse 1 0 0) (pick b (refuse 11 0 0) (answer others (accept 0))) ≡ refuse 11 0 0 → GoodPrimes P Q × (P ≡ Q)
      go true b e f h = absurd (let z : 1 ≡ 11 = ap (λ (r : Reply). r.number) h in omega arith)
      go false true e f h = (both_primes.0 e, eqb-true P Q f)
      go false false e f h = absurd (other_number 11 others (accept 0) refl (λ z. omega (arith, z)) (ap (λ (r : Reply). r.number) h))

  -- ---- What is written.

  numerators_long : length (numerators_w P Q N x y) ≡ N
  unfolding numerators_w
  numerators_long = length_tabulate N _

  denominators_long : length (denominators_w P Q N x y) ≡ N
  unfolding denominators_w
  denominators_long = length_tabulate N _

  numerator_is : Accepted y₀ → (k : ℕ) → k < N → get_or (numerators_after_of P Q N x y ns ds) k (pos 0) ≡ numerator_at P Q N x y k
  unfolding numerators_after_of numerators_w
  numerator_is ok k h = ap (λ (l : List ℤ). get_or l k (pos 0)) (after_is y₀ (numerators_w P Q N x y) ns ok) ∙ get_d_front N (numerator_at P Q N x y) _ (pos 0) k h

  denominator_is : Accepted y₀ → (k : ℕ) → k < N → get_or (denominators_after_of P Q N x y ns ds) k 0 ≡ denominator_at P Q N x y k
  unfolding denominators_after_of denominators_w
  denominator_is ok k h = ap (λ (l : List ℕ). get_or l k 0) (after_is y₀ (denominators_w P Q N x y) ds ok) ∙ get_d_front N (denominator_at P Q N x y) _ 0 k h

  writes : Accepted y₀ → (k : ℕ) → k < N
      → Fraction P Q (get_or x k 0) (get_or y k 0) (get_or (numerators_after_of P Q N x y ns ds) k (pos 0)) (get_or (denominators_after_of P Q N x y ns ds) k 0)
  writes ok k h = rw (numerator_is ok k h, denominator_is ok k h) (one_at P Q N x y k (not_zero P Q N x y k ((accepts.0 ok).1 k h)))

  room : Accepted y₀ → (N ≤ length ns) × (N ≤ length ds)
  room ok = let g = (accepts.0 ok).0 in (g.6, g.7)

  -- ---- Words that do not count.

  module _ (x' y' : List ℕ) (e : SameColumn N x x') (f : SameColumn N y y') (long_x : short x N ≡ short x' N) (long_y : short y N ≡ short y' N) where
    without_same : first_without_of P Q N x y ≡ first_without_of P Q N x' y'
    unfolding first_without_of
    without_same = same_first N _ _ 0 (λ k a b. let h : k < N = omega arith in ap₂ (λ (u v : ℕ). eqb (denominator P Q u v) 0) (e k h) (f k h))

    reply_same : y₀ ≡ fractions_reply P Q N x' y' ns ds
    unfolding fractions_reply
    reply_same = rw (long_x, long_y, place_same P N x x' e, place_same Q N y y' f, without_same)

    written_same : (numerators_w P Q N x y ≡ numerators_w P Q N x' y') × (denominators_w P Q N x y ≡ denominators_w P Q N x' y')
    unfolding numerators_w denominators_w
    written_same = (
      tabulate_same N _ _ (λ k h. ap₂ (numerator P Q) (e k h) (f k h)),
      tabulate_same N _ _ (λ k h. ap₂ (denominator P Q) (e k h) (f k h)),
    )

    all_same : (y₀ ≡ fractions_reply P Q N x' y' ns ds) × (numerators_after_of P Q N x y ns ds ≡ numerators_after_of P Q N x' y' ns ds)
        × (denominators_after_of P Q N x y ns ds ≡ denominators_after_of P Q N x' y' ns ds)
    unfolding numerators_after_of denominators_after_of
    all_same = (
      reply_same,
      ap₂ (λ (r : Reply) (l : List ℤ). after r l ns) reply_same written_same.0,
      ap₂ (λ (r : Reply) (l : List ℕ). after r l ds) reply_same written_same.1,
    )

  unread : (ns' : List ℤ) (ds' : List ℕ) → short ns N ≡ short ns' N → short ds N ≡ short ds' N
      → y₀ ≡ fractions_reply P Q N x y ns' ds'
  unfolding fractions_reply
  unread ns' ds' a b = rw (a, b)

  -- ---- The reply as one number.

  number_fits : (k : ℕ) → k < 256 → Fits (refuse k 0 0)
  number_fits k h = plain k 0 0 h (omega arith) (omega arith)

  short_fits : (b : ℕ) → b < 256 → Fits (refuse 4 b 0)
  short_fits b h = plain 4 b 0 (omega arith) h (omega arith)

  numbers_fit : AllFit (number_checks P Q N)
  numbers_fit =
      fit_cons _ _ (number_fits 1 (omega arith)) (fit_cons _ _ (number_fits 11 (omega arith)) (fit_cons _ _ (number_fits 2 (omega arith)) fit_nil))

  residues_fit : N ≤ standard.size → AllFit (residue_checks P Q N x y ++ fraction_check P Q N x y)
  residues_fit h =
      fit_cons _ _ (plain 5 1 _ (omega arith) (omega arith) (omega (arith, place_le P N x)))
      (fit_cons _ _ (plain 5 2 _ (omega arith) (omega arith) (omega (arith, place_le Q N y)))
      (fit_cons _ _ (plain 12 0 _ (omega arith) (omega arith) (omega (arith, without_le P Q N x y))) fit_nil))

  others_fit : N ≤ standard.size → AllFit ((length_checks N x y ns ds ++ residue_checks P Q N x y) ++ fraction_check P Q N x y)
  others_fit h =
      fit_cons _ _ (short_fits 1 (omega arith)) (fit_cons _ _ (short_fits 2 (omega arith))
      (fit_cons _ _ (short_fits 4 (omega arith)) (fit_cons _ _ (short_fits 5 (omega arith)) (residues_fit h))))

  fits : Fits y₀
  unfolding fractions_reply
  fits =
      let others = (length_checks N x y ns ds ++ residue_checks P Q N x y) ++ fraction_check P Q N x y in
      rw (answer_append (number_checks P Q N) others (accept 0)) (fits_answer (number_checks P Q N) (answer others (accept 0)) (λ k z. numbers_fit.at k)
      (λ z. fits_answer others (accept 0) (λ k w. (others_fit (size_is standard.size N (z 2))).at k) (λ w. zero_fits)))

  pub promises : FractionPromises P Q N x y ns ds
  unfolding numerators_after_of denominators_after_of fractions_reply
  promises = record {
    accepts = accepts;
    writes = writes;
    equal = equal;
    without = without;
    order = refl;
    causes = causes;
    numerators_kept = (kept y₀ (numerators_w P Q N x y) ns, surplus y₀ N (numerators_w P Q N x y) ns (λ ok. numerators_long));
    denominators_kept = (kept y₀ (denominators_w P Q N x y) ds, surplus y₀ N (denominators_w P Q N x y) ds (λ ok. denominators_long));
    numerators_length = after_length y₀ (numerators_w P Q N x y) ns (λ ok. omega (arith, numerators_long, (room ok).0));
    denominators_length = after_length y₀ (denominators_w P Q N x y) ds (λ ok. omega (arith, denominators_long, (room ok).1));
    surplus = all_same;
    unread = unread;
    value = value_is (fractions_checks P Q N x y ns ds) (accept 0) refl;
    packs = parts y₀ fits;
  }
