-- `call_fractions::put_fractions` meets its contract. The loop's invariant: the first i words of both buffers are written, and the
-- rest is as it was.
use Rattle.std.specs.Prelude.{Option, Some, None, MatchOption, ℤ, pos}
use Rattle.std.specs.Option.{unwrap_or}
use Rattle.std.proofs.Common.{◌≡◌, ◌<◌, ℕ, ◌∙◌, arith, rules, w32, to_z, of_z}
use Rattle.lists.specs.Writing.{tabulate_more}
use Rattle.table.proofs.WordLaws.{place_below}
use Rattle.field_fractions.specs.declared.Ratio.{Ratio}
use Rattle.call_fractions.specs.FractionCall.{numerators_w, denominators_w}
use Rattle.call_fractions.proofs.put_fractions.Invariants.{numerator_at, denominator_at}
use Rattle.call_fractions.proofs.put_fractions.Goals as goal

-- the fraction, or 0 and 0
fraction_or : (o : Option Ratio) {n : ℤ} {d : ℕ} → MatchOption o ((pos 0 ≡ n) × (0 ≡ d)) (λ f. (f.numerator ≡ n) × (f.denominator ≡ d) × (0 < f.denominator))
    → let f = unwrap_or o (record { numerator = pos 0; denominator = 0 }) in (f.numerator ≡ n) × (f.denominator ≡ d)
fraction_or None h = h
fraction_or (Some f) h = (h.0, h.1)

pub fraction-requires : goal.fraction-requires
fraction-requires c = let q = c.requires.words in let h = c.loop-i-test.true in (place_below _ _ _ q.2 _ h, place_below _ _ _ q.3 _ h)

-- one more place is written
pub loop-i-preserved : goal.loop-i-preserved
loop-i-preserved c =
    let a = c.args in
    let f = c.unwrap_or-f.result in
    let is = rw (← c.unwrap_or-f.ensures) at (fraction_or _ c.fraction.ensures) in
    let word : to_z w32 (of_z w32 f.numerator) ≡ f.numerator = search rules in record {
      numerators = tabulate_more c.loop-i.i (numerator_at a.k.p a.k.modulus.p a.x.now a.y.now) _ _ _ c.loop-i.invariant.numerators (word ∙ is.0) (omega arith);
      denominators = tabulate_more c.loop-i.i (denominator_at a.k.p a.k.modulus.p a.x.now a.y.now) _ _ _ c.loop-i.invariant.denominators is.1 (omega arith);
    }

pub returns-clause-numerators_after : goal.returns-clause-numerators_after
unfolding numerators_w
returns-clause-numerators_after c = let z : c.loop-i.i ≡ c.args.n = omega arith in rw z at c.loop-i.invariant.numerators

pub returns-clause-denominators_after : goal.returns-clause-denominators_after
unfolding denominators_w
returns-clause-denominators_after c = let z : c.loop-i.i ≡ c.args.n = omega arith in rw z at c.loop-i.invariant.denominators
