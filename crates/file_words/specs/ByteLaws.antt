-- Laws of words in bytes.
use Rattle.std.specs.Prelude.{Bool, true, false, ◌≡◌, refl, List, [], ◌∷◌, ◌++◌, ℕ, suc, ◌+◌, ◌*◌, ◌/◌, ◌%◌, ◌-◌, ◌<◌, ◌≤◌, length, take, drop, set}
use Rattle.std.proofs.Common.{sym, ap, ap₂, ◌∙◌, append_assoc, append-nil, arith, length-append, drop_of_length-le}
use borrow.Rule.Slice.PartMut.{put_mid, Post-is}
use Rattle.std.specs.Int.{to_le_bytes, w32}
use Rattle.algebra.specs.Generators.{pick}
use Rattle.lists.specs.Lists.{tabulate, put_at}
use Rattle.lists.specs.ListLaws.{length_tabulate}
use Rattle.lists.specs.Writing.{tabulate_snoc, put_none, put_more, put_next}
use Rattle.table.specs.RowFile.{byte_of, bytes_of}
use Rattle.table.proofs.RowFileLaws.{length_bytes}

-- the bytes of words and more words
pub bytes_append : (xs ys : List ℕ) → bytes_of (xs ++ ys) ≡ bytes_of xs ++ bytes_of ys
bytes_append [] ys = refl
bytes_append (x ∷ xs) ys = ap (λ (l : List ℕ). tabulate 4 (byte_of x) ++ l) (bytes_append xs ys)
    ∙ sym (append_assoc (tabulate 4 (byte_of x)) (bytes_of xs) (bytes_of ys))

-- the four bytes of a word are written
pub put_four : (at w : ℕ) (d : List ℕ) {a b c e : ℕ} → at + 4 ≤ length d → w < 4294967296 → a ≡ w % 256 → b ≡ w / 256 % 256 → c ≡ w / 65536 % 256
    → e ≡ w / 16777216
    → set (set (set (set d at a) (at + 1) b) (at + 2) c) (at + 3) e ≡ put_at at 4 (byte_of w) d
put_four at w d {a} {b} {c} {e} h l qa qb qc qe =
    let z : at ≡ at + 0 = omega arith in
    put_more at 3 (byte_of w) _ d e
    (put_more at 2 (byte_of w) _ d c (put_more at 1 (byte_of w) _ d b (ap (λ (i : ℕ). set d i a) z
    ∙ put_more at 0 (byte_of w) d d a (put_none at (byte_of w) d) qa (omega arith)) qb (omega arith)) (qc ∙ third) (omega arith)) (qe ∙ fourth) (omega arith)
  where
    third : w / 65536 % 256 ≡ w / 256 / 256 % 256
    third = omega arith

    fourth : w / 16777216 ≡ w / 256 / 256 / 256 % 256
    fourth = omega arith

-- the same of the bytes as std gives them
four_bytes : (w : ℕ) → to_le_bytes w32 w ≡ tabulate 4 (byte_of w)
four_bytes w =
    let b : w / 65536 % 256 ≡ w / 256 / 256 % 256 = omega arith in
    let c : w / 16777216 % 256 ≡ w / 256 / 256 / 256 % 256 = omega arith in
    rw (← b, ← c) refl

pub put_bytes : (at w : ℕ) (d : List ℕ) {ys : List ℕ} → ys ≡ to_le_bytes w32 w → put_mid at (at + 4 - at) d ys ≡ put_at at 4 (byte_of w) d
unfolding put_at
put_bytes at w d e = ap₂ (λ (x y : List ℕ). take at d ++ (x ++ y)) (e ∙ four_bytes w) (Post-is at (at + 4) d (omega arith))

-- a word that is x where it is used, else 0
module _ {b : Bool} (x : ℕ) {v : ℕ} where
  pub word_used : b ≡ true → v ≡ x → v ≡ pick b x 0
  word_used u e = rw u e

  pub word_unused : b ≡ false → v ≡ 0 → v ≡ pick b x 0
  word_unused u e = rw u e

-- b is the buffer a with the n words ws written from word `at` on, whatever bytes pre are before them
abbrev pub Bytes : (at n : ℕ) (ws a b : List ℕ) → Type 0
Bytes at n ws a b = (pre d : List ℕ) → length pre ≡ 4 * at → a ≡ pre ++ drop (4 * at) d → b ≡ (pre ++ bytes_of ws) ++ drop (4 * (at + n)) d

-- no word, one word, words and more words
pub bytes_none : (at : ℕ) (a : List ℕ) → Bytes at 0 [] a a
bytes_none at a pre d l e = let z : 4 * (at + 0) ≡ 4 * at = omega arith in rw (z, append-nil pre) e

pub bytes_word : (at to x : ℕ) (a b : List ℕ) → to ≡ 4 * at → b ≡ put_at to 4 (byte_of x) a → Bytes at 1 (x ∷ []) a b
bytes_word at to x a b y q pre d l e =
    let z : 4 * at + 4 ≡ 4 * (at + 1) = omega arith in
    put_next pre d a b (4 * at) 4 (byte_of x) l e (rw y at q) ∙ rw z refl

pub bytes_join : (at at' n m : ℕ) (xs ys a b c : List ℕ) → at' ≡ at + n → length xs ≡ n → Bytes at n xs a b → Bytes at' m ys b c
    → Bytes at (n + m) (xs ++ ys) a c
bytes_join at at' n m xs ys a b c y h f g pre d l e =
    let k : length (pre ++ bytes_of xs) ≡ 4 * at' = length-append pre (bytes_of xs) ∙ ap₂ ◌+◌ l (length_bytes xs) ∙ omega arith in
    let z : 4 * (at' + m) ≡ 4 * (at + (n + m)) = omega arith in
    g (pre ++ bytes_of xs) d k (f pre d l e ∙ rw y refl) ∙ rw (z, bytes_append xs ys, append_assoc pre (bytes_of xs) (bytes_of ys))

-- one more word of a loop
pub bytes_more : (at n : ℕ) (f : ℕ → ℕ) (a b e : List ℕ) (to v : ℕ) → Bytes at n (tabulate n f) a b → to ≡ 4 * (at + n) → v ≡ f n
    → e ≡ put_at to 4 (byte_of v) b → Bytes at (n + 1) (tabulate (n + 1) f) a e
bytes_more at n f a b e to v h y q z =
    let k : n + 1 ≡ suc n = omega arith in
    rw (ap (λ (m : ℕ). tabulate m f) k ∙ tabulate_snoc n f, ← q) (bytes_join at (at + n) n 1 (tabulate n f) (v ∷ []) a b e refl (length_tabulate n f) h
    (bytes_word (at + n) to v b e y z))

pub bytes_done : (at j n : ℕ) (f : ℕ → ℕ) (a b : List ℕ) → Bytes at j (tabulate j f) a b → j ≤ n → n ≤ j → Bytes at n (tabulate n f) a b
bytes_done at j n f a b h p q = let z : j ≡ n = omega arith in rw z at h

-- words that fill a buffer
pub bytes_all : (n : ℕ) (ws a b : List ℕ) → length a ≡ 4 * n → Bytes 0 n ws a b → b ≡ bytes_of ws
bytes_all n ws a b l h = let z : length a ≤ 4 * (0 + n) = omega arith in h [] a refl refl ∙ rw (drop_of_length-le a z) (append-nil (bytes_of ws))
