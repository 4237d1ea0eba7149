-- What a record holds when a row's word d and its two halves are written.
use Rattle.std.specs.Prelude.{Bool, not, ◌&&◌, ◌≡◌, refl, List, [], ◌∷◌, ◌++◌, ℕ, ◌+◌, ◌*◌, ◌/◌, ◌%◌, ◌<◌, eqb, length}
use Rattle.std.proofs.Common.{sym, ◌∙◌, arith}
use Rattle.algebra.specs.Generators.{pick}
use Rattle.algebra.specs.Kinds.{Kind}
use Rattle.lists.specs.Lists.{tabulate, put_at}
use Rattle.lists.specs.ListLaws.{length_tabulate}
use Rattle.table.specs.Words.{Used, place, row_gens, row_words_of}
use Rattle.table.specs.RowFile.{byte_of, bytes_of}
use Rattle.row_words.specs.Rows.{half_words, copied_half}
use Rattle.row_words.specs.RowLaws.{as_block, copied_row}
use Rattle.table.proofs.WordLaws.{gen_word}
use Rattle.file_words.specs.ByteLaws.{Bytes, bytes_word, bytes_join, bytes_all}

-- one half of a row, block by block
pub half_bytes : (first last : Bool) (at o : ℕ) (w : ℕ → ℕ) (from : ℕ) (a b c e : List ℕ) → Bytes at o (tabulate o (λ j. pick first (w (from + j)) 0)) a b
    → Bytes (at + o) (o * o) (tabulate (o * o) (λ j. pick (last && first) (w (from + o + j)) 0)) b c
    → Bytes (at + o + o * o) o (tabulate o (λ j. pick last (w (from + o + o * o + j)) 0)) c e
    → Bytes at (2 * o + o * o) (copied_half (λ x. x) first last o w from) a e
unfolding half_words
half_bytes first last at o w from a b c e p q t =
    let F : List ℕ = tabulate o (λ j. pick first (w (from + j)) 0) in
    let G : List ℕ = tabulate (o * o) (λ e. pick (last && first) (w (from + o + (e / o * o + e % o))) 0) in
    let H : List ℕ = tabulate o (λ i. pick last (w (from + o + o * o + i)) 0) in
    let q' : Bytes (at + o) (o * o) G b c = rw (as_block o o (o * o) (λ j. pick (last && first) (w (from + o + j)) 0) refl) at q in
    let z : o + (o * o + o) ≡ 2 * o + o * o = omega arith in
    rw z at (bytes_join at (at + o) o (o * o + o) F (G ++ H) a b e refl (length_tabulate o _) p
    (bytes_join (at + o) (at + o + o * o) (o * o) o G H b c e refl (length_tabulate (o * o) _) q' t))

-- Row k of n, by words w from `base` on that are below P where they are used.
pub record_row : (P n r s k : ℕ) → 0 < P → k < n → (w : ℕ → ℕ) (base : ℕ) (v : Kind → ℕ → ℕ → ℕ) → ((κ : Kind) (i j : ℕ) → v κ i j ≡ w (base + place r s κ i j))
    → ((κ : Kind) (i j : ℕ) → Used n r s k κ i j → v κ i j < P) → (x from from' : ℕ) → x ≡ w base → from ≡ base + 1 → from' ≡ base + (1 + (2 * r + r * r))
    → (x ∷ []) ++ (copied_half (λ x. x) (not (eqb k 0)) (not (eqb (k + 1) n)) r w from ++ copied_half (λ x. x) (not (eqb (k + 1) n)) (not (eqb k 0)) s w from')
    ≡ row_words_of P n r s k (row_gens P n r s k v)
record_row P n r s k pos lt w base v here small =
    copied_row P n r s k lt (row_gens P n r s k v) w base (λ κ i j u. sym (here κ i j) ∙ gen_word P n r s k v pos small κ i j u) (λ x. x) (λ X. X) (λ m X e. e)

-- a record: the word "next", the word d and two halves
pub record_bytes : (x y at m n : ℕ) (A B d a b c e : List ℕ) → length A ≡ m → at ≡ 2 + m → length d ≡ 4 * (1 + (1 + m + n))
    → a ≡ put_at 0 4 (byte_of x) d → b ≡ put_at 4 4 (byte_of y) a → Bytes 2 m A b c → Bytes at n B c e → e ≡ bytes_of (x ∷ ((y ∷ []) ++ (A ++ B)))
record_bytes x y at m n A B d a b c e la z l p q f g =
    let W : List ℕ = (y ∷ []) ++ (A ++ B) in
    bytes_all (1 + (1 + (m + n))) (x ∷ W) d e (omega arith) (bytes_join 0 1 1 (1 + (m + n)) (x ∷ []) W d a e refl refl (bytes_word 0 0 x d a refl p)
    (bytes_join 1 2 1 (m + n) (y ∷ []) (A ++ B) a b e refl refl (bytes_word 1 4 y a b refl q) (bytes_join 2 at m n A B b c e z la f g)))
