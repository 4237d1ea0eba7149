-- `check_records::first_broken` meets its contract. The loop's invariant: m is the number met after k rows, and what the search finds, it finds from k on.
use Rattle.std.proofs.Common.{sym, ap, ◌∙◌, ◌≤◌, suc, add-one, le_antisymm, arith}
use Rattle.lists.specs.ListLaws.{search_next, search_hit, search_end}
use Rattle.table.specs.RowFile.{broken}
use Rattle.check_records.specs.RecordLaws.{met_first, record_next, record_fits}
use Rattle.check_records.specs.ChainLaws.{chain_start, early, beyond, inside, ended, endless}
use Rattle.check_records.proofs.first_broken.Goals.{then-m-eq0-via-then-m-eq0, then-m-eq0-via-else-m-eq0+then-n-m}
use Rattle.check_records.proofs.first_broken.Goals as goal

pub loop-k-init : goal.loop-k-init
loop-k-init c = record { here = c.word-m.ensures ∙ met_first _; first = chain_start c.args.f.now _ _ _ c.requires.0 }

pub returns-then-m-eq0-clause-first : goal.returns-then-m-eq0-clause-first
returns-then-m-eq0-clause-first c =
    let f = c.args.f.now in let h = c.requires.0 in let l = c.loop-k in let t = c.loop-k-test.true in
    sym (l.invariant.first ∙ search_hit _ (broken f) _ (omega arith) (elim c.then-m-eq0.branch [
      | then-m-eq0-via-then-m-eq0 w ↦ early f _ _ _ h _ _ l.invariant.here t w.if-m-eq0.true
      | then-m-eq0-via-else-m-eq0+then-n-m w ↦ beyond f _ _ _ h _ _ l.invariant.here t w.if-n-m.true
    ]) ∙ add-one _)

pub record-requires : goal.record-requires
record-requires c =
    let h = c.requires.0 in let low : 1 ≤ c.loop-k.m = omega (arith, c.if-m-eq0.false) in
    (low, omega (arith, c.if-n-m.false, h.most), omega arith, record_fits c.args.f.now _ _ _ h _ _ low c.row_width-w.ensures.0 c.if-n-m.false c.requires.1)

pub loop-k-preserved : goal.loop-k-preserved
loop-k-preserved c = let f = c.args.f.now in let h = c.requires.0 in let l = c.loop-k in let t = c.loop-k-test.true in record {
  here = c.word-m-in-loop-k.ensures ∙ rw c.record.ensures.bytes
      (record_next f _ _ _ h _ _ (omega (arith, c.if-m-eq0.false)) c.row_width-w.ensures.0 _ l.invariant.here);
  first = l.invariant.first ∙ search_next _ (broken f) _ (omega arith) (inside f _ _ _ h _ _ l.invariant.here t c.if-m-eq0.false c.if-n-m.false);
}

pub returns-then-m-eq0-2-clause-first : goal.returns-then-m-eq0-2-clause-first
returns-then-m-eq0-2-clause-first c =
    let f = c.args.f.now in let l = c.loop-k in let e = le_antisymm l.auto.k-end c.loop-k-test.false in
    sym (l.invariant.first ∙ search_next _ (broken f) _ (omega arith) (ended f _ _ _ c.requires.0 _ _ l.invariant.here e c.if-m-eq0-2.true)
    ∙ search_end _ (broken f) _ (omega arith))

pub returns-else-m-eq0-2-clause-first : goal.returns-else-m-eq0-2-clause-first
returns-else-m-eq0-2-clause-first c =
    let f = c.args.f.now in let l = c.loop-k in let e = le_antisymm l.auto.k-end c.loop-k-test.false in
    sym (l.invariant.first ∙ search_hit _ (broken f) _ (omega arith) (endless f _ _ _ c.requires.0 _ _ l.invariant.here e c.if-m-eq0-2.false)
    ∙ add-one _ ∙ ap suc e)
