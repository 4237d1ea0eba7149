-- `call_dense::solve_words` meets its contract.
use Rattle.std.proofs.Common.{arith, List, refl, sym, ◌∙◌, ℕ, ap, not}
use borrow.Author.Tests.{not-true, not-false}
use Rattle.table.specs.Words.{table}
use Rattle.lists.specs.ListLaws.{clash}
use Rattle.table_dense.specs.DenseCall.{nonsingular_w}
use Rattle.call_dense.specs.DenseWords.{Given, square_holds, square_good, square_leaves, column_holds, column_good, back_room, result_leaves}
use Rattle.call_dense.proofs.solve_words.Goals.{After-copy, After-matrix_rows, After-solve-found, Start}
use Rattle.call_dense.proofs.solve_words.Goals as goal

-- what is asked at the start
given : (s : Start) → let a = s.args in
    Given a.m.p a.n (table a.r a.s a.table.now) a.column.now a.square.now
given s = let q = s.requires in record { pos = s.args.m.fit.pos; good = q.0; long_column = q.2; below = q.3; room_square = q.4 }

-- the contexts before: from the written square back to the copied column, and to the start
abbrev copying : After-matrix_rows → After-copy
copying c = (goal.at.After-matrix_rows c).After-copy

abbrev start : After-matrix_rows → Start
start c = (goal.at.After-copy (copying c)).Start

-- from the solved system back to the written square; and the private column's first words, solved
abbrev writing : After-solve-found → After-matrix_rows
writing c = (goal.at.After-solve-found c).After-matrix_rows

abbrev answer : After-solve-found → List ℕ
answer c = c.solve-found.new.column

pub solve-found-requires : goal.solve-found-requires
solve-found-requires c =
    let w = (goal.at.solve-found-requires c).After-matrix_rows in
    let q = (start w).requires in
    let g = given (start w) in (
      q.0.prime,
      q.1,
      square_good g w.matrix_rows.ensures,
      column_good g _ _ (copying w).copy.ensures (omega arith),
    )

pub returns-then-not-found : goal.returns-then-not-found
unfolding nonsingular_w
returns-then-not-found c =
    let s = (goal.at.returns-then-not-found c).After-solve-found in
    let w = writing s in
    let g = given (start w) in
    let e = w.matrix_rows.ensures in
    let u = s.solve-found.ensures in
    let f = not-true _ (ap not c.if-not-found.true) in
    let z = u.value _ _ (square_holds g e) (column_holds g _ _ (copying w).copy.ensures) in
    record {
      value = sym f ∙ z.0;
      square_after = square_leaves g e u.square_after.0;
      res_after = (λ e. clash (sym e), λ e. refl);
    }

pub slice_bounds-copy-end-3 : goal.slice_bounds-copy-end-3
slice_bounds-copy-end-3 c =
    let s = (goal.at.slice_bounds-copy-end-3 c).After-solve-found in
    let w = writing s in
    back_room (given (start w)) _ (answer s) (omega (arith, (start w).requires.1)) s.solve-found.ensures.square_after.1

pub returns : goal.returns
unfolding nonsingular_w
returns c =
    let s = (goal.at.returns c).After-solve-found in
    let w = writing s in
    let g = given (start w) in
    let e = w.matrix_rows.ensures in
    let u = s.solve-found.ensures in
    let f = not-false _ (ap not c.if-not-found.false) in
    let z = u.value _ _ (square_holds g e) (column_holds g _ _ (copying w).copy.ensures) in
    let d = (start w).args.res.now in
    let out = result_leaves g _ (answer s) (omega (arith, (start w).requires.1)) u.square_after.1 d (z.1 f) c.copy-2.ensures in
    record {
      value = sym f ∙ z.0;
      square_after = square_leaves g e u.square_after.0;
      res_after = (λ e. out, λ e. clash e);
    }
