-- `check_records::first_bad` meets its contract. The loop's invariant: m is the record met after k others, and what the search finds, it finds from k on.
use Rattle.std.proofs.Common.{◌≡◌, sym, ◌∙◌, ◌+◌, ◌≤◌, add-one, arith, rules}
use Rattle.lists.specs.ListLaws.{search_start, search_next, search_hit, search_end}
use Rattle.table.specs.RowFile.{file_word}
use Rattle.check_records.specs.RecordLaws.{bad_met, first_met, met_first, met_within, record_fits, record_next, record_bad}
use Rattle.check_records.proofs.first_bad.Goals.{After-bad_row, In-loop-k}
use Rattle.check_records.proofs.first_bad.Goals as goal

-- the record met is one of the file
inside : (c : In-loop-k) → (1 ≤ c.loop-k.m) × (c.loop-k.m ≤ c.args.n)
inside c = met_within c.args.f.now _ _ _ c.requires.0 c.requires.3 _ _ c.loop-k-test.true c.loop-k.invariant.here

-- what is known of the record, said of the file
told : (c : After-bad_row) → c.bad_row.result ≡ bad_met c.args.f.now c.args.p c.args.n c.args.r c.args.s c.loop-k.k
told c =
    c.bad_row.ensures (λ i. file_word c.record-part.result.now (1 + i)) (λ i x l p. search rules)
    ∙ rw c.record-part.ensures.bytes
    (record_bad c.args.f.now _ _ _ c.requires.0 _ _ (inside (goal.at.After-bad_row c).In-loop-k).0 c.row_width-w.ensures.0 _ c.loop-k.invariant.here _
    c.loop-k-test.true)

pub loop-k-init : goal.loop-k-init
loop-k-init c = record {
  here = c.word-m.ensures ∙ met_first _;
  first = first_met c.args.f.now _ _ _ c.requires.0 _ c.requires.2 ∙ search_start _ _;
}

pub record-part-requires : goal.record-part-requires
record-part-requires c =
    let h = c.requires.0 in let m = inside c in
    (m.0, omega (arith, m.1, h.most), omega arith, record_fits c.args.f.now _ _ _ h _ _ m.0 c.row_width-w.ensures.0 m.1 c.requires.1)

pub loop-k-preserved : goal.loop-k-preserved
loop-k-preserved c = record {
  here = c.word-m-in-loop-k.ensures ∙ rw c.record-part.ensures.bytes (record_next c.args.f.now _ _ _ c.requires.0 _ _
      (inside (goal.at.loop-k-preserved c).In-loop-k).0 c.row_width-w.ensures.0 _ c.loop-k.invariant.here);
  first = c.loop-k.invariant.first ∙ search_next _ _ _ c.loop-k-test.true
      (sym (told (goal.at.loop-k-preserved c).After-bad_row) ∙ c.if-bad_row.false);
}

pub returns-then-bad_row-clause-first : goal.returns-then-bad_row-clause-first
returns-then-bad_row-clause-first c = sym (c.loop-k.invariant.first ∙ search_hit _ _ _ c.loop-k-test.true
    (sym (told (goal.at.returns-then-bad_row-clause-first c).After-bad_row) ∙ c.if-bad_row.true) ∙ add-one _)

pub returns-clause-first : goal.returns-clause-first
returns-clause-first c = sym (c.loop-k.invariant.first ∙ search_end _ _ _ c.loop-k-test.false)
