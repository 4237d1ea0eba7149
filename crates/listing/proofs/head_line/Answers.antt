-- `listing::head_line` meets its contract.
use Rattle.std.proofs.Common.{arith}
use Rattle.table.specs.Lister.{text, named}
use Rattle.listing.specs.LineLaws.{puts_then, puts_blank}
use Rattle.listing.proofs.head_line.Goals as goal

pub returns : goal.returns
returns c =
    let i = c.args in let e = c.put_named-a.ensures in let f = c.put_named-b.ensures in let g = c.put_named-c.ensures in let h = c.put_named-d.ensures in
    let k = c.put_text.ensures in (
      puts_then 0 _ (text "\n")
          (puts_blank 0 _ (named "upper" i.s) (puts_blank 0 _ (named "lower" i.r) (puts_blank 0 (named "prime" i.p) (named "size" i.n) e.0 f.0) g.0) h.0) k,
      omega (arith, e.1, f.1, g.1, h.1, k.ends),
    )
