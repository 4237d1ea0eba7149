-- Laws of reading a file: its rows in the order of the chain, and what an accepted call has checked and leaves.
use Rattle.std.specs.Prelude.{◌≡◌, refl, List, ◌++◌, ℕ, ◌+◌, ◌*◌, ◌<◌, ◌≤◌, length, drop}
use Rattle.std.proofs.Common.{sym, ◌∙◌}
use Rattle.std.proofs.Math.Path.{ap, ap₂}
use Rattle.algebra.specs.Kinds.{Kind}
use Rattle.field.specs.Residue.{res, prime_pos}
use Rattle.lists.specs.Lists.{rows_of}
use Rattle.table.specs.Words.{Used, width, place, row_gens, row_words_of, table_words}
use Rattle.table.proofs.WordLaws.{row_length, row_same}
use Rattle.table.specs.RowFile.{file_word, file_bytes, head_p, head_n, head_r, head_s, record_at_of, met, file_gens, first_broken_of, first_bad_in_file, read_w}
use Rattle.table.proofs.RowFileLaws.{file_words_below}
use Rattle.table.specs.Replies.{Accepted, accept}
use Rattle.table.specs.Calls.{read_checks, read_reply, read_after}
use Rattle.table.proofs.AcceptsProof.{read_accepts}
use Rattle.table.proofs.FileLaws.{read_length, read_chain}
use Rattle.table.proofs.CallLaws.{AllClear, accepted_leaves, written_length}
use Rattle.check_numbers.specs.CheckLaws.{accepts}
use Rattle.check_records.specs.Filed.{Headed}

-- a word of row k, which is the record met after k others, and the row as it is read, by the size and the orders that code holds
abbrev met_word : (f : List ℕ) (r s k : ℕ) → Kind → ℕ → ℕ → ℕ
met_word f r s k κ i j = file_word f (record_at_of f (met f k) + (1 + place r s κ i j))

abbrev pub met_row : (f : List ℕ) (n r s k : ℕ) → List ℕ
met_row f n r s k = row_words_of (head_p f) n r s k (row_gens (head_p f) n r s k (met_word f r s k))

pub met_length : (f : List ℕ) (n r s k : ℕ) → length (met_row f n r s k) ≡ width r s
met_length f n r s k = row_length (head_p f) n r s k _

module _ (f : List ℕ) (n r s : ℕ) (h : Headed f n r s) where
  -- the rows make up the table
  pub all_met : rows_of n (met_row f n r s) ≡ read_w f
  unfolding read_w table_words file_gens
  all_met = ap₂ (λ (x y : ℕ). rows_of n (met_row f n x y)) (sym h.lower) (sym h.upper)
      ∙ ap (λ (m : ℕ). rows_of m (met_row f m (head_r f) (head_s f))) (sym h.size)

  module _ (good : first_bad_in_file f ≡ 0) where
    -- used words are below P
    small : (k : ℕ) (κ : Kind) (i j : ℕ) → Used n r s k κ i j → met_word f r s k κ i j < head_p f
    small k κ i j u =
        let e : met_word f (head_r f) (head_s f) k κ i j ≡ met_word f r s k κ i j = ap₂ (λ (x y : ℕ). met_word f x y k κ i j) h.lower h.upper in
        let v : Used (head_n f) (head_r f) (head_s f) k κ i j = rw (h.size, h.lower, h.upper) u in
        rw (← e) ((file_words_below f).0 good k κ i j v)

    -- a row b that is read from words w, which are the file's where they are used
    pub row_read : 0 < head_p f → (k : ℕ) (w : Kind → ℕ → ℕ → ℕ) (b : List ℕ) → ((κ : Kind) (i j : ℕ) → Used n r s k κ i j → w κ i j ≡ met_word f r s k κ i j)
        → ((p : ℕ) → 0 < p → ((κ : Kind) (i j : ℕ) → Used n r s k κ i j → w κ i j < p) → b ≡ row_words_of p n r s k (row_gens p n r s k w))
        → b ≡ met_row f n r s k
    row_read pos k w b same e = e (head_p f) pos (λ κ i j u. rw (same κ i j u) (small k κ i j u))
        ∙ ap (row_words_of (head_p f) n r s k) (row_same (head_p f) n r s k w (met_word f r s k) (λ κ i j u. ap (res (head_p f)) (same κ i j u)))

-- An accepted call, by the size and the orders that code reads in the head.
module _ (f d : List ℕ) (ok : Accepted (read_reply f d)) (n r s : ℕ) (en : n ≡ head_n f) (er : r ≡ head_r f) (es : s ≡ head_s f) where
  -- the head, the length, the chain and the words are right, and the result has room
  pub read_passed : Headed f n r s × (length f ≡ file_bytes n r s) × (0 < head_p f) × (first_broken_of f ≡ 0) × (first_bad_in_file f ≡ 0) × (n * width r s ≤ length d)
  read_passed = let g = (read_accepts f d).0 ok in rw (en, er, es) (
    record { size = refl; lower = refl; upper = refl; most = g.1.3; lower_most = g.2.0; upper_most = g.2.1 },
    g.3,
    prime_pos (head_p f) g.1.0,
    read_chain f d ok,
    (file_words_below f).1 g.6,
    g.4,
  )

  -- what it leaves
  module _ (out : List ℕ) (e : out ≡ read_w f ++ drop (n * width r s) d) where
    full : length (read_w f) ≡ n * width r s
    full = rw (en, er, es) (read_length f)

    pub read_kept : length out ≡ length d
    read_kept = written_length (read_w f) d out (n * width r s) full read_passed.5 e

    pub read_leaves : out ≡ read_after f d
    read_leaves = accepted_leaves (read_reply f d) (read_w f) d out (n * width r s) ok full e

-- the same where none of its checks finds anything
pub clear_leaves : (f d : List ℕ) → AllClear (read_checks f d) → (n r s : ℕ) → n ≡ head_n f → r ≡ head_r f → s ≡ head_s f
    → (out : List ℕ) → out ≡ read_w f ++ drop (n * width r s) d → out ≡ read_after f d
unfolding read_reply
clear_leaves f d clear = read_leaves f d (accepts (read_checks f d) (accept (head_p f)) refl clear)
