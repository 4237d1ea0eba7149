-- `call_file::write_head` meets its contract.
use Rattle.call_file.specs.WriteLaws.{head_bytes}
use Rattle.call_file.proofs.write_head.Goals as goal

pub returns : goal.returns
returns c =
    let a = c.args in
    head_bytes a.p a.n a.r a.s 1 a.out.now _ _ _ _ _ c.put_word.ensures c.put_word-2.ensures c.put_word-3.ensures c.put_word-4.ensures c.put_word-5.ensures
