-- `listing::refusal_line` meets its contract.
use Rattle.std.proofs.Common.{arith}
use Rattle.table.specs.Lister.{text, decimal, named}
use Rattle.listing.specs.LineLaws.{puts_then, puts_blank}
use Rattle.listing.proofs.refusal_line.Goals as goal

pub returns : goal.returns
returns c = let i = c.args in let e = c.put_named-a.ensures in let f = c.put_named-b.ensures in let g = c.put_named-c.ensures in let h = c.put_text.ensures in (
  puts_then 0 _ (text "\n") (puts_blank 0 _ (decimal i.row) (puts_blank 0 (named "refused" i.number) (decimal i.buffer) e.0 f.0) g.0) h,
  omega
      (arith, e.1, f.1, g.1, h.ends),
)
