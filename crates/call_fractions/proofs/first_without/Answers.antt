-- `call_fractions::first_without` meets its contract. The loop's invariant: what the search finds, it finds from i on.
use Rattle.std.specs.Prelude.{Option, Some, None, MatchOption, is_some, true, false, not, ℤ}
use Rattle.std.proofs.Common.{◌≡◌, ◌<◌, ◌+◌, ℕ, suc, ap, sym, ◌∙◌, arith, eq-eqb, ne_eqb}
use Rattle.lists.specs.ListLaws.{clash, search_start, search_next, search_hit, search_end}
use Rattle.table.proofs.WordLaws.{place_below}
use Rattle.field_fractions.specs.declared.Ratio.{Ratio}
use Rattle.call_fractions.specs.FractionCall.{first_without_of}
use Rattle.call_fractions.proofs.first_without.Goals as goal

-- the denominator that no fraction has is 0, that of a fraction is not
no_denominator : {X : Type 0} (o : Option X) (A : Type 0) {d : ℕ} (Q : X → Type 0) → MatchOption o (A × (0 ≡ d)) Q → is_some o ≡ false → d ≡ 0
no_denominator None A Q h e = sym h.1
no_denominator (Some f) A Q h e = clash e

a_denominator : (o : Option Ratio) (P : Type 0) (n : ℤ) {d : ℕ} → MatchOption o P (λ f. (f.numerator ≡ n) × (f.denominator ≡ d) × (0 < f.denominator))
    → is_some o ≡ true → d ≡ 0 → ⊥
a_denominator None P n h e z = clash (sym e)
a_denominator (Some f) P n h e z = omega (arith, h.1, h.2)

pub loop-i-init : goal.loop-i-init
loop-i-init c = search_start _ _

pub fraction-requires : goal.fraction-requires
fraction-requires c = let q = c.requires in let h = c.loop-i-test.true in (place_below _ _ _ q.2 _ h, place_below _ _ _ q.3 _ h)

pub returns-then-is_none : goal.returns-then-is_none
unfolding first_without_of
returns-then-is_none c = let next : suc c.loop-i.i ≡ c.loop-i.i + 1 = omega arith in (
  next
      ∙ sym (c.loop-i.invariant
      ∙ search_hit _ _ _ c.loop-i-test.true (eq-eqb _ 0 (no_denominator _ _ _ c.fraction.ensures (c.is_none.ensures ∙ ap not c.if-is_none.true)))),
  c.loop-i-test.true,
)

pub loop-i-preserved : goal.loop-i-preserved
loop-i-preserved c = c.loop-i.invariant ∙ search_next _ _ _ c.loop-i-test.true
    (ne_eqb _ 0 (a_denominator _ _ _ c.fraction.ensures (c.is_none.ensures ∙ ap not c.if-is_none.false)))

pub returns : goal.returns
unfolding first_without_of
returns c = (sym (c.loop-i.invariant ∙ search_end _ _ _ c.loop-i-test.false), tt)
