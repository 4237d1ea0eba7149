-- `call_kernel::kernel_check` meets its contract.
use Rattle.std.specs.Prelude.{Ok, Err}
use Rattle.std.proofs.Common.{refl, ◌∙◌, arith}
use Rattle.table.specs.Words.{table}
use Rattle.table.specs.Replies.{accept}
use Rattle.check_numbers.specs.CheckLaws.{answered}
use Rattle.check_steps.specs.StepLaws.{refuses, handed}
use Rattle.call_kernel.specs.ShowsLaws.{Asked, stopped, question, fits, other_word, corner_good, corner_reads, not_zeros, zeros}
use Rattle.call_kernel.proofs.kernel_check.Goals.{In_ok-check_shows}
use Rattle.call_kernel.proofs.kernel_check.Goals as goal

-- the checks pass
asked : (c : In_ok-check_shows) → let a = c.args in Asked a.p a.n (table a.r a.s a.table.now) a.k a.column.now (accept 0)
asked c = record { is = answered _ (Ok tt) c.in_ok-check_shows.ensures }

pub returns-in_err-check_shows : goal.returns-in_err-check_shows
returns-in_err-check_shows c = let a = c.args in
    let no : Asked a.p a.n (table a.r a.s a.table.now) a.k a.column.now _ = record {
      is = answered _ (Err c.in_err-check_shows.field-0.0) c.in_err-check_shows.ensures;
    } in
    handed _ _ c.from_residual.ensures.1 ∙ stopped no (refuses c.in_err-check_shows.field-0.0)

pub overflow_sub-size : goal.overflow_sub-size
overflow_sub-size c = omega (arith, (question (asked (goal.at.overflow_sub-size c).In_ok-check_shows) refl).3)

pub bounds-column-size : goal.bounds-column-size
bounds-column-size c = let z = question (asked (goal.at.bounds-column-size c).In_ok-check_shows) refl in omega (arith, z.2.0, z.3, z.4)

pub returns-then-column-size-ne1 : goal.returns-then-column-size-ne1
returns-then-column-size-ne1 c = other_word (asked (goal.at.returns-then-column-size-ne1 c).In_ok-check_shows) refl c.if-column-size-ne1.true refl

pub new-m-requires : goal.new-m-requires
new-m-requires c = fits (asked (goal.at.new-m-requires c).In_ok-check_shows) refl

pub sends_some-requires : goal.sends_some-requires
sends_some-requires c = let m = c.new-m.ensures in let q = asked (goal.at.sends_some-requires c).In_ok-check_shows in
    (corner_good q refl m, corner_reads q refl m)

pub returns-then-sends_some : goal.returns-then-sends_some
returns-then-sends_some c =
    not_zeros (asked (goal.at.returns-then-sends_some c).In_ok-check_shows) refl c.new-m.ensures c.sends_some.ensures c.if-sends_some.true refl

pub returns : goal.returns
returns c = zeros (asked (goal.at.returns c).In_ok-check_shows) refl c.new-m.ensures c.sends_some.ensures c.if-column-size-ne1.false c.if-sends_some.false refl
