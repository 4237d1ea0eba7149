-- `check_words::first_bad_place` meets its contract. The loop's invariant: what the search finds, it finds from i on.
use Rattle.std.proofs.Common.{sym, ◌∙◌, add-one, le-leb}
use borrow.Author.Tests.{lt-leb}
use Rattle.lists.specs.ListLaws.{search_start, search_next, search_hit, search_end}
use Rattle.table.specs.Words.{first_bad_place_of}
use Rattle.check_words.proofs.first_bad_place.Goals as goal

pub loop-i-init : goal.loop-i-init
loop-i-init c = search_start _ _

pub loop-i-preserved : goal.loop-i-preserved
loop-i-preserved c = c.loop-i.invariant ∙ search_next _ _ _ c.loop-i-test.true (lt-leb _ _ c.if-p-x.false)

pub returns-then-p-x-clause-first : goal.returns-then-p-x-clause-first
unfolding first_bad_place_of
returns-then-p-x-clause-first c = sym (c.loop-i.invariant ∙ search_hit _ _ _ c.loop-i-test.true (le-leb _ _ c.if-p-x.true) ∙ add-one _)

pub returns-clause-first : goal.returns-clause-first
unfolding first_bad_place_of
returns-clause-first c = sym (c.loop-i.invariant ∙ search_end _ _ _ c.loop-i-test.false)
