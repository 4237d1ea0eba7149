-- `call_file::read_rows` meets its contract. The loop's invariant: k rows are written, and m is the record met after k others.
use Rattle.std.proofs.Common.{refl, sym, ◌∙◌, ◌+◌, ◌*◌, ◌≤◌, mul-le-mul_right, zero-mul, le_antisymm, arith, length, rules}
use Rattle.row_words.specs.PutLaws.{row_written}
use Rattle.check_records.specs.RecordLaws.{met_first, met_within, record_fits, record_next, record_word}
use Rattle.call_file.specs.ReadLaws.{met_row, met_length, all_met, row_read}
use Rattle.call_file.proofs.read_rows.Goals.{In-loop-k}
use Rattle.call_file.proofs.read_rows.Goals as goal

-- the record met is one of the file
inside : (c : In-loop-k) → (1 ≤ c.loop-k.m) × (c.loop-k.m ≤ c.args.n)
inside c = met_within c.args.f.now _ _ _ c.requires.0 c.requires.3 _ _ c.loop-k-test.true c.loop-k.invariant.here

pub loop-k-init : goal.loop-k-init
loop-k-init c = record { here = c.word-m.ensures ∙ met_first _; rows = rw zero-mul refl }

pub record-part-requires : goal.record-part-requires
record-part-requires c =
    let h = c.requires.0 in let m = inside c in
    (m.0, omega (arith, m.1, h.most), omega arith, record_fits c.args.f.now _ _ _ h _ _ m.0 c.row_width-w.ensures.0 m.1 c.requires.1)

pub slice_bounds-read_row-end : goal.slice_bounds-read_row-end
slice_bounds-read_row-end c =
    let w = c.row_width-w in
    let e : c.args.n * w.result ≤ length c.args.res.now = rw w.ensures.0 c.requires.5 in
    let fits : (c.loop-k.k + 1) * w.result ≤ length c.loop-k.res = omega (arith, mul-le-mul_right w.result c.loop-k-test.true) in
    search (rules, fits)

pub loop-k-preserved : goal.loop-k-preserved
loop-k-preserved c =
    let a = c.args in let f = a.f.now in let p = c.requires in let l = c.loop-k in let w = c.row_width-w in
    let low = (inside (goal.at.loop-k-preserved c).In-loop-k).0 in record {
      here = c.word-m-in-loop-k.ensures ∙ rw c.record-part.ensures.bytes (record_next f _ _ _ p.0 _ _ low w.ensures.0 _ l.invariant.here);
      rows = row_written (met_row f a.n a.r a.s) a.res.now (λ k. met_length f _ _ _ k ∙ sym w.ensures.0) l.k l.invariant.rows
          (row_read f _ _ _ p.0 p.4 p.2 _ _ _ (rw c.record-part.ensures.bytes (record_word f _ _ _ p.0 _ _ low w.ensures.0 _ l.invariant.here))
          c.read_row.ensures);
    }

pub returns : goal.returns
returns c =
    let l = c.loop-k in let e = le_antisymm l.auto.k-end c.loop-k-test.false in
    l.invariant.rows ∙ rw (e, c.row_width-w.ensures.0, all_met _ _ _ _ c.requires.0) refl
