-- `check_words::first_bad_row` meets its contract. The loop's invariant: what the search finds, it finds from row k on.
use Rattle.std.proofs.Common.{◌≡◌, refl, sym, ◌∙◌, ◌-◌, ◌*◌, add-one, arith, get_or, take, drop, ◌+◌, rules}
use Rattle.lists.specs.ListLaws.{search_start, search_next, search_hit, search_end}
use Rattle.table.specs.Words.{first_bad_of}
use Rattle.check_numbers.specs.CheckLaws.{row_at}
use Rattle.check_words.proofs.first_bad_row.Invariants.{F}
use Rattle.check_words.proofs.first_bad_row.Goals.{After-bad_row}
use Rattle.check_words.proofs.first_bad_row.Goals as goal

pub loop-k-init : goal.loop-k-init
loop-k-init c = search_start _ _

-- what is known of a row, said of the table
told : (c : After-bad_row) → c.bad_row.result ≡ F c.args.p c.args.n c.args.r c.args.s c.args.t.now c.loop-k.k
told c =
    let a = c.args in
    let k = c.loop-k.k in
    let w = c.row_width-w.result in
    let z : (k + 1) * w - k * w ≡ k * w + w - k * w = omega arith in
    c.bad_row.ensures (λ e. get_or (take ((k + 1) * w - k * w) (drop (k * w) a.t.now)) e 0) (λ i x l p. search rules)
    ∙ rw z (row_at a.p a.n a.r a.s k a.t.now (k * w) w c.loop-k-test.true c.row_width-w.ensures.0 refl)

pub loop-k-preserved : goal.loop-k-preserved
loop-k-preserved c = c.loop-k.invariant ∙ search_next _ _ _ c.loop-k-test.true
    (sym (told (goal.at.loop-k-preserved c).After-bad_row) ∙ c.if-bad_row.false)

pub returns-then-bad_row-clause-first : goal.returns-then-bad_row-clause-first
unfolding first_bad_of
returns-then-bad_row-clause-first c = sym (c.loop-k.invariant ∙ search_hit _ _ _ c.loop-k-test.true
    (sym (told (goal.at.returns-then-bad_row-clause-first c).After-bad_row) ∙ c.if-bad_row.true) ∙ add-one _)

pub returns-clause-first : goal.returns-clause-first
unfolding first_bad_of
returns-clause-first c = sym (c.loop-k.invariant ∙ search_end _ _ _ c.loop-k-test.false)
