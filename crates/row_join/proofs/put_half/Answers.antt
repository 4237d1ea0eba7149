-- `row_join::put_half` meets its contract.
use Rattle.std.proofs.Common.{refl}
use Rattle.row_words.specs.PutLaws.{put_half_lem}
use Rattle.row_join.proofs.put_half.Goals as goal

pub returns : goal.returns
returns c =
    λ pre d l e. put_half_lem _ _ _ _ _ _ pre d _ _ _ _ _ _ _ _ l e c.put_two.ensures c.put_corners.ensures c.put_two-2.ensures refl refl refl refl refl
