-- A call's checks, one after the other: what a reply is where one stops the call, and where all pass.
use Rattle.std.specs.Prelude.{Result, Ok, Err, IsErrAnd, Bool, true, false, ◌≢◌, ◌≡◌, refl, List, [], ◌∷◌, ◌++◌, ℕ, ◌<◌, ◌≤◌, ltb, leb}
use Rattle.std.proofs.Common.{sym, ap, ◌∙◌, le_trans, arith, leb-true, lt-ltb, le-ltb}
use Rattle.algebra.specs.Generators.{pick}
use Rattle.table.specs.Limits.{standard, most_order, most_size}
use Rattle.table.specs.Words.{Table}
use Rattle.table.specs.Replies.{Reply, Check, check, accept, answer, NoFault, bad_size_of, bad_order}
use Rattle.check_numbers.specs.declared.Refusal.{Refusal}
use Rattle.check_numbers.specs.declared.Refusal.TheVariants.{Prime, Size, Orders, Short, Word, Factor, AddedOrders, ZeroPivot, Singular}
use Rattle.check_numbers.specs.declared.Refusal.TheVariants.{Place, Length, Chain, SamePrimes, NoFraction, NoZeroPivot}
use Rattle.check_numbers.specs.Replied.{refused, replied}
use Rattle.check_steps.specs.Checked.{Sized}
use Rattle.table.proofs.CallLaws.{refusing, passed, open_checks, refused_by, given, answer_append, both_hold}

-- A reply against a call's checks: one more holds and gives it, one more doesn't hold, none is left.
pub here : {c : Bool} {y w : Reply} (cs : List Check) (v : Reply) → c ≡ true → w ≡ y → w ≡ answer (check c y ∷ cs) v
unfolding answer
here {y = y} cs v e q = q ∙ sym (ap (λ (c : Bool). pick c y (answer cs v)) e)

pub next : {c : Bool} {w : Reply} (y : Reply) (cs : List Check) (v : Reply) → c ≡ false → w ≡ answer cs v → w ≡ answer (check c y ∷ cs) v
unfolding answer
next y cs v e q = q ∙ sym (ap (λ (c : Bool). pick c y (answer cs v)) e)

pub last : {v w : Reply} → w ≡ v → w ≡ answer [] v
unfolding answer
last q = q

-- y is the answer of a call's first checks: it refuses, whatever comes after them; or they pass, and the others decide
module _ (cs : List Check) (y : Reply) (e : y ≡ answer cs (accept 0)) where
  pub first_stop : y.number ≢ 0 → (ds : List Check) (v : Reply) → y ≡ answer (cs ++ ds) v
  first_stop n ds v =
      let z = refused_by cs (accept 0) refl (λ q. n (ap (λ (x : Reply). x.number) e ∙ q)) in
      e ∙ given cs (accept 0) z.0 z.1 ∙ sym (answer_append cs ds v ∙ given cs (answer ds v) z.0 z.1)

  module _ (r : refusing cs ≡ true) (ok : y.number ≡ 0) where
    pub first_clear : NoFault cs
    first_clear = passed cs (accept 0) r (ap (λ (x : Reply). x.number) (sym e) ∙ ok)

    pub first_accept : y ≡ accept 0
    first_accept = e ∙ open_checks cs (accept 0) first_clear

    pub first_pass : (ds : List Check) (v : Reply) {w : Reply} → w ≡ answer ds v → w ≡ answer (cs ++ ds) v
    first_pass ds v q = q ∙ sym (answer_append cs ds v ∙ open_checks cs (answer ds v) first_clear)

-- y answers the checks cs, and there is one check more: y is handed on, the check gives its refusal, or it finds nothing
module _ (c : Check) (y : Reply) (cs : List Check) (r : refusing cs ≡ true) (e : y ≡ answer cs (accept 0)) where
  pub handed_on : y.number ≢ 0 → y ≡ answer (cs ++ (c ∷ [])) (accept 0)
  handed_on n = first_stop cs y e n (c ∷ []) (accept 0)

  pub found : y.number ≡ 0 → c.cause ≡ true → {w : Reply} → w ≡ c.refusal → w ≡ answer (cs ++ (c ∷ [])) (accept 0)
  found ok h q = first_pass cs y e r ok (c ∷ []) (accept 0) (here [] (accept 0) h q)

  pub not_found : y.number ≡ 0 → c.cause ≡ false → y ≡ answer (cs ++ (c ∷ [])) (accept 0)
  not_found ok h = first_pass cs y e r ok (c ∷ []) (accept 0) (next c.refusal [] (accept 0) h (last (first_accept cs y e r ok)))

-- orders, and the size with them, are within the limits
pub order_within : (r s : ℕ) → bad_order standard.order r s ≡ false → (r ≤ most_order) × (s ≤ most_order)
order_within r s e = let o = both_hold (leb r standard.order) (leb s standard.order) e in (leb-true r 8 o.0, leb-true s 8 o.1)

-- the numbers are within the limits where their checks find nothing
pub sized : (most N : ℕ) (A : Table) → most ≤ most_size → bad_size_of most N ≡ false → bad_order standard.order A.lower A.upper ≡ false
    → Sized N A.lower A.upper
sized most N A few size orders =
    let o = order_within A.lower A.upper orders in (le_trans (leb-true N most (both_hold (leb 1 N) (leb N most) size).1) few, o.0, o.1)

-- A search's row as code tests it.
pub row_found : (v m : ℕ) → v ≡ m → 0 < v → ltb 0 m ≡ true
row_found v m e h = lt-ltb 0 m (omega arith)

pub row_none : (v m : ℕ) → v ≡ m → v ≤ 0 → ltb 0 m ≡ false
row_none v m e h = le-ltb 0 m (omega arith)

-- A refusal is no acceptance, and `?` hands it on.
pub refuses : (r : Refusal) → (refused r).number ≢ 0
refuses Prime e = absurd (omega arith)
refuses Size e = absurd (omega arith)
refuses (Orders b) e = absurd (omega arith)
refuses (Short b) e = absurd (omega arith)
refuses (Word b k) e = absurd (omega arith)
refuses Factor e = absurd (omega arith)
refuses AddedOrders e = absurd (omega arith)
refuses (ZeroPivot k) e = absurd (omega arith)
refuses Singular e = absurd (omega arith)
refuses Place e = absurd (omega arith)
refuses Length e = absurd (omega arith)
refuses (Chain k) e = absurd (omega arith)
refuses SamePrimes e = absurd (omega arith)
refuses (NoFraction k) e = absurd (omega arith)
refuses NoZeroPivot e = absurd (omega arith)

pub handed : (r : Result ℕ Refusal) (e : Refusal) → IsErrAnd r (λ d. d ≡ e) → replied r ≡ refused e
handed (Ok v) e h = absurd h
handed (Err d) e h = ap refused h
