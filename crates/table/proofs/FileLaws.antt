-- A row file that the write call leaves is accepted by the read call, which leaves the table with its unused words zero.
-- What the read call leaves, of any file that it accepts.
use Rattle.std.specs.Prelude.{◌≡◌, ℕ, ◌-◌, ◌*◌, ◌<◌, ◌≤◌, length, drop, take}
use Rattle.std.proofs.Math.Path.{refl, sym, ap}
use Rattle.std.proofs.Common.{◌∙◌, arith, take_at}
use mathlib.Core.List.{List, ◌++◌}
use Rattle.algebra.specs.Kinds.{Kind}
use Rattle.field.specs.Residue.{val, prime_pos, val_small}
use Rattle.table.specs.Words.{Table, table, width, Used, table_word, gens, matrix_of, table_words}
use Rattle.table.proofs.WordLaws.{clean, table_at, table_used, row_unused, gen_used, room, written, written_unused, written_good, length_table}
use Rattle.table.proofs.WordLaws.{words_below}
use Rattle.table.specs.RowFile.{file_bytes, head_p, head_n, head_r, head_s, first_broken_of, file_row_word, file_gens, file_matrix, words_of_file, read_w, write_w}
use Rattle.table.proofs.RowFileLaws.{bytes_below, word_is, met_is, met_end, file_row, head_P, head_N, head_R, head_S, file_length, chain_none, chain_right}
use Rattle.table.proofs.RowFileLaws.{file_words_below, words_right, file_reads_back}
use Rattle.table.specs.Replies.{Reply, Accepted, accept}
use Rattle.table.specs.Calls.{table_length, read_checks, write_reply, read_reply, read_after, read_t}
use Rattle.table.proofs.CallLaws.{value_is, after_is}
use Rattle.table.proofs.AcceptsProof.{accepts, read_accepts}
use Rattle.table.specs.Undertakings.{GoodNumbers, GoodTable, GoodFile, file_left, Writes, ReadsBack, ReadsFile}

module _ (P N : ℕ) (A : Table) (f : List ℕ) (ok : Accepted (write_reply P N A f)) where
  good : GoodNumbers P N × GoodTable P N A × (file_bytes N A.lower A.upper ≤ length f)
  good = ((accepts P N A).write f).0 ok

  pos : 0 < P
  pos = prime_pos P good.0.0

  fit_p : P < 4294967296
  fit_p = omega (arith, good.0.1)

  rows : 0 < N
  rows = good.0.2

  fit_n : N < 4294967295
  fit_n = omega (arith, good.0.3)

  fit_r : A.lower < 4294967296
  fit_r = omega (arith, good.1.0.0)

  fit_s : A.upper < 4294967296
  fit_s = omega (arith, good.1.0.1)

  pub left_length : length (write_w P N A) ≡ file_bytes N A.lower A.upper
  left_length = file_length P N A pos fit_p fit_n fit_r fit_s

  file_left_lem : file_left P N A f ≡ write_w P N A
  file_left_lem = ap (take (file_bytes N A.lower A.upper)) (after_is (write_reply P N A f) (write_w P N A) f ok)
      ∙ take_at (write_w P N A) (drop (length (write_w P N A)) f) (file_bytes N A.lower A.upper) left_length

  written_file : Writes P N A (write_w P N A)
  unfolding write_w words_of_file
  written_file = record {
    long = left_length;
    bytes = bytes_below (words_of_file P N A);
    head = (
      word_is P N A pos fit_p fit_n fit_r fit_s 0,
      word_is P N A pos fit_p fit_n fit_r fit_s 1,
      word_is P N A pos fit_p fit_n fit_r fit_s 2,
      word_is P N A pos fit_p fit_n fit_r fit_s 3,
      word_is P N A pos fit_p fit_n fit_r fit_s 4,
    );
    chain = met_is P N A pos fit_p fit_n fit_r fit_s;
    end = met_end P N A pos fit_p fit_n fit_r fit_s (N - 1) (omega (arith, rows));
    used = λ k κ i j u. let l = room N A.lower A.upper k κ i j u in
        file_row P N A pos fit_p fit_n fit_r fit_s k κ i j u.0 l
        ∙ sym (table_at P N A.lower A.upper (gens P N A) A.words k κ i j u.0 l)
        ∙ clean P N A pos ((words_below P N A).1 good.1.2) A.words k κ i j u;
    unused = λ k κ i j h l n. file_row P N A pos fit_p fit_n fit_r fit_s k κ i j h l ∙ row_unused P N A.lower A.upper k (gens P N A k) κ i j l n;
  }

  pub writes_file : Writes P N A (file_left P N A f)
  writes_file = rw file_left_lem written_file

  module _ (d : List ℕ) (fits : table_length N A ≤ length d) where
    accepted : read_reply (write_w P N A) d ≡ accept P
    unfolding read_reply
    accepted = value_is (read_checks (write_w P N A) d) (accept (head_p (write_w P N A))) refl
        ((read_accepts (write_w P N A) d).1 (
          omega (arith, left_length),
          rw (head_P P N A pos fit_p fit_n fit_r fit_s, head_N P N A pos fit_p fit_n fit_r fit_s) good.0,
          rw (head_R P N A pos fit_p fit_n fit_r fit_s, head_S P N A pos fit_p fit_n fit_r fit_s) good.1.0,
          rw (head_N P N A pos fit_p fit_n fit_r fit_s, head_R P N A pos fit_p fit_n fit_r fit_s, head_S P N A pos fit_p fit_n fit_r fit_s) left_length,
          rw (head_N P N A pos fit_p fit_n fit_r fit_s, head_R P N A pos fit_p fit_n fit_r fit_s, head_S P N A pos fit_p fit_n fit_r fit_s) fits,
          (chain_none (write_w P N A)).0 (chain_right P N A pos fit_p fit_n fit_r fit_s rows),
          (file_words_below (write_w P N A)).0 (words_right P N A pos fit_p fit_n fit_r fit_s rows),
        ))
        ∙ ap accept (head_P P N A pos fit_p fit_n fit_r fit_s)

    -- every word that it leaves: the table's rows, then what the buffer held
    leaves : read_after (write_w P N A) d ≡ table_words P N A.lower A.upper (gens P N A) ++ drop (table_length N A) d
    leaves = after_is (read_reply (write_w P N A) d) (read_w (write_w P N A)) d (ap (λ (y : Reply). y.number) accepted)
        ∙ ap (λ (ws : List ℕ). ws ++ drop (length ws) d) (file_reads_back P N A pos fit_p fit_n fit_r fit_s)
        ∙ ap (λ (n : ℕ). table_words P N A.lower A.upper (gens P N A) ++ drop n d) (length_table P N A.lower A.upper (gens P N A) d)

    back : ReadsBack P N A (write_w P N A) d
    back = record {
      head = (
        head_P P N A pos fit_p fit_n fit_r fit_s,
        head_N P N A pos fit_p fit_n fit_r fit_s,
        head_R P N A pos fit_p fit_n fit_r fit_s,
        head_S P N A pos fit_p fit_n fit_r fit_s,
      );
      accepted = accepted;
      words = leaves;
      same = rw leaves (clean P N A pos ((words_below P N A).1 good.1.2) _);
      unused = rw leaves (written_unused P N A.lower A.upper (gens P N A) _);
    }

    pub reads_back : ReadsBack P N A (file_left P N A f) d
    reads_back = rw file_left_lem back

pub read_length : (f : List ℕ) → length (read_w f) ≡ head_n f * width (head_r f) (head_s f)
unfolding read_w
read_length f = length_table (head_p f) (head_n f) (head_r f) (head_s f) (file_gens f) f

-- any accepted file
module _ (f d : List ℕ) (ok : Accepted (read_reply f d)) where
  asked : GoodFile f d
  asked = (read_accepts f d).0 ok

  pub read_chain : first_broken_of f ≡ 0
  read_chain = (chain_none f).1 asked.5

  prime_above : 0 < head_p f
  prime_above = prime_pos (head_p f) asked.1.0

  left : read_after f d ≡ read_w f ++ drop (length (read_w f)) d
  left = after_is (read_reply f d) (read_w f) d ok

  used_words_lem : (k : ℕ) (κ : Kind) (i j : ℕ) → Used (head_n f) (head_r f) (head_s f) k κ i j → table_word (read_t f d) k κ i j ≡ file_row_word f k κ i j
  unfolding read_w file_gens
  used_words_lem k κ i j u = ap (λ (t : List ℕ). table_word (table (head_r f) (head_s f) t) k κ i j) left
      ∙ table_used (head_p f) (head_n f) (head_r f) (head_s f) (file_gens f) _ k κ i j u
      ∙ ap (val (head_p f)) (gen_used (head_p f) (head_n f) (head_r f) (head_s f) k (file_row_word f k) κ i j u)
      ∙ val_small (head_p f) prime_above _ (asked.6 k κ i j u)

  pub reads_file : ReadsFile f d
  unfolding read_w file_matrix
  reads_file = record {
    used = used_words_lem;
    stands = λ i j hi hj. ap (λ (t : List ℕ). matrix_of (head_p f) (head_n f) (table (head_r f) (head_s f) t) i j) left
        ∙ written (head_p f) (head_n f) (head_r f) (head_s f) (file_gens f) _ i j hi hj;
    readable = rw left (
      written_unused (head_p f) (head_n f) (head_r f) (head_s f) (file_gens f) _,
      written_good (head_p f) (head_n f) (head_r f) (head_s f) (file_gens f) _ prime_above,
    );
  }
