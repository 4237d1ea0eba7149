-- What the writer of a row file leaves: its head, its records, and the whole.
use Rattle.std.specs.Prelude.{◌≢◌, ◌≡◌, refl, ℕ, zero, suc, ◌+◌, ◌-◌, ◌*◌, ◌<◌, ◌≤◌, eqb, length, get_or, take, drop}
use Rattle.std.proofs.Common.{sym, ◌∙◌, zero-le, mul-le-mul_right, zero-mul, arith, length-drop, drop_of_length-le, take_all, take_at, drop_at, drop-drop, eq-eqb, ne_eqb}
use Rattle.std.proofs.Math.Path.{ap, ap₂}
use mathlib.Core.List.{List, [], ◌∷◌, ◌++◌, append_assoc, append-nil}
use borrow.Rule.Slice.PartMut.{mid_of, put_mid, same_len_mid, mid_len, Post-is}
use Rattle.algebra.specs.Generators.{pick}
use Rattle.algebra.specs.Kinds.{Kind}
use Rattle.field.specs.Residue.{res, prime_pos}
use Rattle.lists.specs.Lists.{rows_of, put_at}
use Rattle.lists.specs.ListLaws.{rows_part}
use Rattle.table.specs.Words.{table, Used, width, place, table_word, gens, row_gens, row_words_of, first_bad_of}
use Rattle.table.proofs.WordLaws.{room, row_length, row_same, used_below}
use Rattle.table.specs.RowFile.{byte_of, bytes_of, file_bytes, write_w, words_of_file}
use Rattle.table.proofs.RowFileLaws.{length_bytes, file_length}
use Rattle.table.specs.Replies.{Accepted, accept}
use Rattle.table.specs.Calls.{write_checks, write_reply, write_after}
use Rattle.table.proofs.CallLaws.{AllClear, accepted_leaves}
use Rattle.check_numbers.specs.CheckLaws.{accepts}
use Rattle.check_numbers.specs.Passed.{Good, write_passed}
use Rattle.row_words.specs.RowLaws.{lent_word}
use Rattle.file_words.specs.ByteLaws.{bytes_append, bytes_word, bytes_join}

-- the five words of the head
pub head_bytes : (p n r s o : ℕ) (d a b c e f : List ℕ) → a ≡ put_at 0 4 (byte_of p) d → b ≡ put_at 4 4 (byte_of n) a → c ≡ put_at 8 4 (byte_of r) b
    → e ≡ put_at 12 4 (byte_of s) c → f ≡ put_at 16 4 (byte_of o) e
    → f ≡ bytes_of (p ∷ n ∷ r ∷ s ∷ o ∷ []) ++ drop 20 d
head_bytes p n r s o d a b c e f q1 q2 q3 q4 q5 =
    bytes_join 0 1 1 4 (p ∷ []) (n ∷ r ∷ s ∷ o ∷ []) d a f refl refl (bytes_word 0 0 p d a refl q1)
    (bytes_join 1 2 1 3 (n ∷ []) (r ∷ s ∷ o ∷ []) a b f refl refl (bytes_word 1 4 n a b refl q2)
    (bytes_join 2 3 1 2 (r ∷ []) (s ∷ o ∷ []) b c f refl refl (bytes_word 2 8 r b c refl q3)
    (bytes_join 3 4 1 1 (s ∷ []) (o ∷ []) c e f refl refl (bytes_word 3 12 s c e refl q4) (bytes_word 4 16 o e f refl q5)))) [] d refl refl

-- the number of the record after record k of n, and the bytes of record k
abbrev next_of : (n k : ℕ) → ℕ
next_of n k = pick (eqb (suc k) n) 0 (suc (suc k))

abbrev pub record_of : (P n r s : ℕ) (t : List ℕ) → ℕ → List ℕ
record_of P n r s t k = bytes_of (next_of n k ∷ row_words_of P n r s k (gens P n (table r s t) k))

pub next_last : (n k : ℕ) {v : ℕ} → k + 1 ≡ n → v ≡ 0 → v ≡ next_of n k
next_last n k e q = let z : suc k ≡ n = omega arith in rw (eq-eqb (suc k) n z) q

pub next_more : (n k : ℕ) {v : ℕ} → k + 1 ≢ n → v ≡ k + 2 → v ≡ next_of n k
next_more n k e q = rw (ne_eqb (suc k) n (λ z. e (omega arith))) (omega arith)

pub length_record : (P n r s : ℕ) (t : List ℕ) (k : ℕ) → length (record_of P n r s t k) ≡ 4 * (1 + width r s)
length_record P n r s t k =
    let l = row_length P n r s k (gens P n (table r s t) k) in
    length_bytes (next_of n k ∷ row_words_of P n r s k (gens P n (table r s t) k)) ∙ omega arith

-- a record, by its row where it is lent on as a part of the table
module _ (n r s k : ℕ) (t : List ℕ) (at w : ℕ) (z : w ≡ width r s) (q : at ≡ k * w) where
  abbrev row_at : Kind → ℕ → ℕ → ℕ
  row_at κ i j = get_or (mid_of at (at + w - at) t) (place r s κ i j) 0

  pub record_lent : (v : ℕ) (b : List ℕ) → v ≡ next_of n k
      → ((p : ℕ) → 0 < p → ((κ : Kind) (i j : ℕ) → Used n r s k κ i j → row_at κ i j < p) → b ≡ bytes_of (v ∷ row_words_of p n r s k (row_gens p n r s k row_at)))
      → (p : ℕ) → 0 < p → first_bad_of p n (table r s t) ≡ 0 → b ≡ record_of p n r s t k
  unfolding gens
  record_lent v b e f p pos good =
      f p pos (λ κ i j u. rw (here κ i j u) (used_below p n (table r s t) pos good k κ i j u))
      ∙ ap₂ (λ (x : ℕ) (ws : List ℕ). bytes_of (x ∷ ws)) e
      (ap (row_words_of p n r s k) (row_same p n r s k row_at (table_word (table r s t) k) (λ κ i j u. ap (res p) (here κ i j u))))
    where
      here : (κ : Kind) (i j : ℕ) → Used n r s k κ i j → row_at κ i j ≡ table_word (table r s t) k κ i j
      here κ i j u = lent_word r s k t at w z q κ i j (room n r s k κ i j u)

-- The state of the loop that writes n records of `size` bytes into a buffer a that held d, from a table t with rows of w words: k are written.
pub record Records (n r s : ℕ) (t d : List ℕ) (w size k at to : ℕ) (a : List ℕ) : Type 0 where
  pub wide : w ≡ width r s
  sized : size ≡ 4 * (1 + width r s)
  pub source : n * w ≤ length t
  space : n * size ≤ length d
  pub turns : k ≤ n
  pub here : at ≡ k * w
  pub there : to ≡ k * size
  pub long : length a ≡ length d
  pub bytes : (p : ℕ) → 0 < p → first_bad_of p n (table r s t) ≡ 0 → a ≡ rows_of k (record_of p n r s t) ++ drop (k * size) d

pub records_none : (n r s : ℕ) (t d : List ℕ) (w : ℕ) → w ≡ width r s → n * width r s ≤ length t → n * (4 * (1 + width r s)) ≤ length d
    → Records n r s t d w (4 * (1 + w)) 0 0 0 d
records_none n r s t d w z h l = record {
  wide = z;
  sized = ap (λ (x : ℕ). 4 * (1 + x)) z;
  source = rw z h;
  space = rw z l;
  turns = zero-le;
  here = omega arith;
  there = omega arith;
  long = refl;
  bytes = λ p pos good. rw (zero-mul (4 * (1 + w))) refl;
}

module _ {n r s : ℕ} {t d : List ℕ} {w size k at to : ℕ} {a : List ℕ} (i : Records n r s t d w size k at to a) where
  -- the next row and the next record lie within
  pub record_room : k < n → (at + w ≤ length t) × (to + size ≤ length a)
  record_room h = (omega (arith, mul-le-mul_right w h, i.here, i.source), omega (arith, mul-le-mul_right size h, i.there, i.space, i.long))

  pub records_more : {b : List ℕ} → k < n → length b ≡ length (mid_of to (to + size - to) a)
      → ((p : ℕ) → 0 < p → first_bad_of p n (table r s t) ≡ 0 → b ≡ record_of p n r s t k)
      → Records n r s t d w size (k + 1) (at + w) (to + size) (put_mid to (to + size - to) a b)
  records_more {b} h l y = record {
    wide = i.wide;
    sized = i.sized;
    source = i.source;
    space = i.space;
    turns = omega arith;
    here = omega (arith, i.here);
    there = omega (arith, i.there);
    long = same_len_mid to (to + size - to) a b l ∙ i.long;
    bytes = λ p pos good. rows_part (record_of p n r s t) d size (λ m. length_record p n r s t m ∙ sym i.sized) k to (i.bytes p pos good) i.there
        (y p pos good);
  }

  pub records_done : n ≤ k → (p : ℕ) → 0 < p → first_bad_of p n (table r s t) ≡ 0 → a ≡ rows_of n (record_of p n r s t) ++ drop (n * (4 * (1 + width r s))) d
  records_done q p pos good = let h : k ≡ n = omega (arith, i.turns) in i.bytes p pos good ∙ rw (h, i.sized)

-- The whole file: the head, then the records.
abbrev head_of : (P n r s : ℕ) → List ℕ
head_of P n r s = bytes_of (P ∷ n ∷ r ∷ s ∷ 1 ∷ [])

bytes_rows : (n : ℕ) (g : ℕ → List ℕ) → bytes_of (rows_of n g) ≡ rows_of n (λ k. bytes_of (g k))
bytes_rows zero g = refl
bytes_rows (suc n) g = bytes_append (rows_of n g) (g n) ∙ ap (λ (l : List ℕ). l ++ bytes_of (g n)) (bytes_rows n g)

file_is : (P n r s : ℕ) (t : List ℕ) → write_w P n (table r s t) ≡ head_of P n r s ++ rows_of n (record_of P n r s t)
unfolding write_w words_of_file
file_is P n r s t = let g : ℕ → List ℕ = λ k. next_of n k ∷ row_words_of P n r s k (gens P n (table r s t) k) in
    bytes_append (P ∷ n ∷ r ∷ s ∷ 1 ∷ []) (rows_of n g) ∙ ap (λ (l : List ℕ). head_of P n r s ++ l) (bytes_rows n g)

-- bytes H at the start of d, then bytes R at the start of the rest, which is lent on
join_bytes : (H R d h b : List ℕ) (m : ℕ) → length H ≡ 20 → 20 ≤ length d → h ≡ H ++ drop 20 d → b ≡ R ++ drop m (mid_of 20 (length d - 20) h)
    → put_mid 20 (length d - 20) h b ≡ (H ++ R) ++ drop (20 + m) d
join_bytes H R d h b m l f e q =
    ap₂ (λ (x y : List ℕ). x ++ (b ++ y)) (ap (take 20) e ∙ take_at H (drop 20 d) 20 l) (ap (drop (length d - 20)) rest ∙ Post-is 20 (length d) d f
    ∙ drop_of_length-le d {i = length d} (omega arith))
    ∙ ap (λ (x : List ℕ). H ++ x) (append-nil b ∙ q ∙ ap (λ (x : List ℕ). R ++ x)
    (ap (drop m) (ap (take (length d - 20)) rest ∙ take_all (length d - 20) (drop 20 d) (omega (arith, length-drop 20 d))) ∙ drop-drop m 20 d))
    ∙ sym (append_assoc H R (drop (20 + m) d))
  where
    rest : drop 20 h ≡ drop 20 d
    rest = ap (drop 20) e ∙ drop_at H (drop 20 d) 20 l

-- the file's length
pub file_long : (P n r s : ℕ) (t : List ℕ) → Good P n (table r s t) → length (write_w P n (table r s t)) ≡ file_bytes n r s
file_long P n r s t g = file_length P n (table r s t) (prime_pos P g.prime) (omega (arith, g.limit)) (omega (arith, g.most)) (omega (arith, g.lower))
    (omega (arith, g.upper))

module _ (n r s : ℕ) (d : List ℕ) (f : file_bytes n r s ≤ length d) where
  -- the part after the head has room for the records
  pub records_room : (h : List ℕ) → length h ≡ length d → n * (4 * (1 + width r s)) ≤ length (mid_of 20 (length d - 20) h)
  records_room h l = go (width r s) f
    where
      go : (w : ℕ) → 4 * (5 + n * (1 + w)) ≤ length d → n * (4 * (1 + w)) ≤ length (mid_of 20 (length d - 20) h)
      go w z = omega (arith, mid_len 20 (length d) h (omega arith))

  -- the head is written, then the records
  pub file_left_lem : (P : ℕ) (t h b : List ℕ) → h ≡ head_of P n r s ++ drop 20 d
      → b ≡ rows_of n (record_of P n r s t) ++ drop (n * (4 * (1 + width r s))) (mid_of 20 (length d - 20) h)
      → put_mid 20 (length d - 20) h b ≡ write_w P n (table r s t) ++ drop (file_bytes n r s) d
  file_left_lem P t h b e q =
      join_bytes (head_of P n r s) (rows_of n (record_of P n r s t)) d h b (n * (4 * (1 + width r s))) refl (omega arith) e q
      ∙ ap₂ (λ (x : List ℕ) (m : ℕ). x ++ drop m d) (sym (file_is P n r s t)) (go (width r s))
    where
      go : (w : ℕ) → 20 + n * (4 * (1 + w)) ≡ 4 * (5 + n * (1 + w))
      go w = omega arith

-- what a call leaves where none of its checks finds anything
module _ (P n r s : ℕ) (t d : List ℕ) (clear : AllClear (write_checks P n (table r s t) d)) where
  accepted : Accepted (write_reply P n (table r s t) d)
  unfolding write_reply
  accepted = accepts (write_checks P n (table r s t) d) (accept 0) refl clear

  pub write_leaves : (h b : List ℕ) → h ≡ head_of P n r s ++ drop 20 d → length h ≡ length d
      → ((p : ℕ) → 0 < p → first_bad_of p n (table r s t) ≡ 0
      → b ≡ rows_of n (record_of p n r s t) ++ drop (n * (4 * (1 + width r s))) (mid_of 20 (length h - 20) h))
      → put_mid 20 (length h - 20) h b ≡ write_after P n (table r s t) d
  write_leaves h b e l q =
      let w = write_passed P n (table r s t) d accepted in
      accepted_leaves (write_reply P n (table r s t) d) (write_w P n (table r s t)) d _ (file_bytes n r s) accepted (file_long P n r s t w.0)
      (rw l (file_left_lem n r s d w.1 P t h b e (rw (← l) (q P (prime_pos P w.0.prime) w.0.words))))
