-- `check_words::bad_given` meets its contract. The loop's invariant: `bad` is the search of the first k words.
use Rattle.std.proofs.Common.{◌≡◌, sym, ap, ◌∙◌, ◌+◌, arith, leb, le-leb}
use borrow.Author.Tests.{lt-leb}
use Rattle.check_numbers.specs.CheckLaws.{some_start, some_hit, some_miss, some_done}
use Rattle.check_words.proofs.bad_given.Goals.{else-p-word, then-p-word}
use Rattle.check_words.proofs.bad_given.Goals as goal

pub loop-k-init : goal.loop-k-init
loop-k-init g c w h = some_start _

pub loop-k-preserved : goal.loop-k-preserved
loop-k-preserved g c w h =
    let here : c.word.result ≡ w (c.args.at + c.loop-k.k) = h _ _ (omega arith) c.word.ensures in
    elim c.if-p-word.branch [
      | then-p-word t ↦ t.bad-is ∙ some_hit _ _ (ap (leb _) (sym here) ∙ le-leb _ _ t.if-p-word.true)
      | else-p-word t ↦ t.bad-is ∙ some_miss _ _ (c.loop-k.invariant w h) (ap (leb _) (sym here) ∙ lt-leb _ _ t.if-p-word.false)
    ]

pub returns : goal.returns
returns g c w h = some_done _ _ _ (c.loop-k.invariant w h) c.loop-k.auto.k-end c.loop-k-test.false
