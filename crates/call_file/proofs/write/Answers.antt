-- `call_file::write` meets its contract.
use Rattle.std.proofs.Common.{refl}
use Rattle.call_file.specs.WriteLaws.{write_leaves}
use Rattle.call_file.proofs.write.Goals as goal

pub returns-clause-file_after : goal.returns-clause-file_after
returns-clause-file_after c =
    write_leaves _ _ _ _ _ c.args.file.now (c.in_ok-check_write.ensures c.args.file.now refl) _ _
    c.write_head.ensures c.write_head.auto.out c.write_rows.ensures
