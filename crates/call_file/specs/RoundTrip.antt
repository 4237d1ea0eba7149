-- Reading a file, then writing the table that was read, gives the file in its canonical form. That a written file reads back as its table is
-- `FileReadsBack` of Undertakings.antt.
use Rattle.std.specs.Prelude.{◌≡◌, List, ℕ, suc, ◌<◌, ◌≤◌, length}
use Rattle.std.proofs.Common.{sym, ◌∙◌, arith}
use Rattle.algebra.specs.Kinds.{Kind}
use Rattle.table.specs.Words.{Used, Room}
use Rattle.table.proofs.WordLaws.{words_below}
use Rattle.table.specs.RowFile.{file_word, file_bytes, head_p, head_n, head_r, head_s, met, file_row_word}
use Rattle.table.specs.Replies.{Accepted}
use Rattle.table.specs.Calls.{read_reply, read_t, write_reply}
use Rattle.table.specs.Undertakings.{file_left}
use Rattle.table.proofs.AcceptsProof.{read_accepts, accepts}
use Rattle.table.proofs.FileLaws.{reads_file, writes_file}
use Rattle.table.proofs.UndertakingsProof.{lengths}

-- f in its canonical form: P in full, the records in the order of the rows, unused words 0
pub record Canonical (f file : List ℕ) : Type 0 where
  pub long : length file ≡ length f
  pub head : (file_word file 0 ≡ head_p f) × (file_word file 1 ≡ head_n f) × (file_word file 2 ≡ head_r f) × (file_word file 3 ≡ head_s f) × (file_word file 4 ≡ 1)
  pub chain : (k : ℕ) → k < head_n f → met file k ≡ suc k
  pub end : met file (head_n f) ≡ 0
  pub used : (k : ℕ) (κ : Kind) (i j : ℕ) → Used (head_n f) (head_r f) (head_s f) k κ i j → file_row_word file k κ i j ≡ file_row_word f k κ i j
  pub unused : (k : ℕ) (κ : Kind) (i j : ℕ) → k < head_n f → Room (head_r f) (head_s f) κ i j → (Used (head_n f) (head_r f) (head_s f) k κ i j → ⊥)
      → file_row_word file k κ i j ≡ 0

-- f is read into d, the table is written to g
module _ (f d g : List ℕ) (ok : Accepted (read_reply f d)) (room : file_bytes (head_n f) (head_r f) (head_s f) ≤ length g) where
  pub writes_again : Accepted (write_reply (head_p f) (head_n f) (read_t f d) g)
  writes_again =
      let z = (read_accepts f d).0 ok in
      let l = (lengths (head_p f) (head_n f) (read_t f d)).read f d in
      ((accepts (head_p f) (head_n f) (read_t f d)).write g).1
      (z.1, (z.2, omega (arith, z.4, l), (words_below (head_p f) (head_n f) (read_t f d)).0 (reads_file f d ok).readable.1), room)

  pub canonical : Canonical f (file_left (head_p f) (head_n f) (read_t f d) g)
  canonical =
      let w = writes_file (head_p f) (head_n f) (read_t f d) g writes_again in
      record {
        long = w.long ∙ sym ((read_accepts f d).0 ok).3;
        head = w.head;
        chain = w.chain;
        end = w.end;
        used = λ k κ i j u. w.used k κ i j u ∙ (reads_file f d ok).used k κ i j u;
        unused = w.unused;
      }
