use Rattle.std.proofs.Common.{◌≡◌, ◌*◌, ◌/◌, ◌%◌}
use Rattle.lists.specs.Lists.{put_at}
use Rattle.row_join.specs.Pairs.{joined_block}
use Rattle.row_join.proofs.put_corners.Given as goal

abbrev pub invariant-loop-i : goal.invariant-loop-i
invariant-loop-i l =
    l.out ≡ put_at l.at (l.i * l.o) (λ e. joined_block l.m.p l.outer l.row1 l.h1 l.row2 l.h2 (e / l.o) (e % l.o)) l.initial.out
