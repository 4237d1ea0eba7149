-- `call_file::read` meets its contract.
use Rattle.std.proofs.Common.{refl}
use Rattle.call_file.specs.ReadLaws.{clear_leaves}
use Rattle.call_file.proofs.read.Goals as goal

pub returns-clause-res_after : goal.returns-clause-res_after
returns-clause-res_after c =
    clear_leaves c.args.file.now c.args.res.now (c.in_ok-p.ensures c.args.res.now refl).1 _ _ _ c.word-n.ensures c.word-r.ensures c.word-s.ensures _
    c.read_rows.ensures
