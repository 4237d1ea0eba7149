-- Laws of a file's records: where a record begins, the part of the bytes that is lent on as one, and its words.
use Rattle.std.specs.Prelude.{Bool, ◌≡◌, refl, List, ℕ, suc, ◌+◌, ◌-◌, ◌*◌, ◌<◌, ◌≤◌, leb, length, get_or, take, drop}
use Rattle.std.proofs.Common.{sym, ◌∙◌, add_assoc, suc-mul, mul-le-mul_right, add-one, arith, get_or-take, get_or-drop}
use Rattle.std.proofs.Math.Path.{ap, ap₂, fun_ext}
use Rattle.algebra.specs.Kinds.{Kind}
use Rattle.lists.specs.Lists.{some, first_of}
use Rattle.table.specs.Words.{width, place, Used, bad_row_of}
use Rattle.table.proofs.WordLaws.{place_lt, room, bad_same}
use Rattle.table.specs.RowFile.{file_word, file_bytes, head_p, head_r, head_s, record_at_of, met, first_broken_of, first_bad_in_file}
use Rattle.table.proofs.RowFileLaws.{right_met}
use Rattle.check_records.specs.Filed.{Headed, record_of}

-- record m ends where m records end
pub record_end : (m w : ℕ) → 1 ≤ m → 5 + (m - 1) * w + w ≡ 5 + m * w
record_end m w h = let e : suc (m - 1) ≡ m = omega arith in add_assoc 5 ((m - 1) * w) w
    ∙ ap (λ (n : ℕ). 5 + n) (sym (suc-mul (m - 1) w) ∙ ap (λ (n : ℕ). n * w) e)

-- Words i, .. of a file, w of them, lent on.
module _ (f : List ℕ) (i w : ℕ) where
  abbrev part : List ℕ
  part = take (4 * i + 4 * w - 4 * i) (drop (4 * i) f)

  part_byte : (x y : ℕ) → x < 4 * w → 4 * i + x ≡ y → get_or part x 0 ≡ get_or f y 0
  part_byte x y l e = get_or-take (4 * i + 4 * w - 4 * i) (drop (4 * i) f) x 0 (omega arith) ∙ get_or-drop (4 * i) f x 0 ∙ ap (λ (z : ℕ). get_or f z 0) e

  part_word : (e : ℕ) → e < w → file_word part e ≡ file_word f (i + e)
  part_word e l = rw (
    part_byte (4 * e) (4 * (i + e)) (omega arith) (omega arith),
    part_byte (4 * e + 1) (4 * (i + e) + 1) (omega arith) (omega arith),
    part_byte (4 * e + 2) (4 * (i + e) + 2) (omega arith) (omega arith),
    part_byte (4 * e + 3) (4 * (i + e) + 3) (omega arith) (omega arith),
  )

-- a search from a word of a record on, said of its row, whose words begin with the record's second
pub row_from : (p : ℕ) (f : List ℕ) (at n to : ℕ) {b : Bool} → b ≡ some n (λ e. leb p (file_word f (at + e))) → at ≡ 1 + to
    → b ≡ some n (λ e. leb p (file_word f (1 + (to + e))))
row_from p f at n to q a = q ∙ ap (λ (g : ℕ → ℕ). some n (λ e. leb p (file_word f (g e)))) (fun_ext (λ e. ap (λ (x : ℕ). x + e) a ∙ add_assoc 1 to e))

-- whether row k, which is the record met after k others, has a bad word
abbrev pub bad_met : List ℕ → (p n r s k : ℕ) → Bool
bad_met f p n r s k = bad_row_of p n r s k (λ κ i j. file_word f (record_at_of f (met f k) + (1 + place r s κ i j)))

pub met_first : (f : List ℕ) → file_word f 4 ≡ met f 0
unfolding met
met_first f = refl

module _ (f : List ℕ) (n r s : ℕ) (h : Headed f n r s) where
  pub first_met : (p : ℕ) → head_p f ≡ p → first_bad_in_file f ≡ first_of n (bad_met f p n r s) 0
  unfolding first_bad_in_file
  first_met p e = ap₂ (λ (P N : ℕ). first_of N (bad_met f P N (head_r f) (head_s f)) 0) e h.size
      ∙ ap₂ (λ (x y : ℕ). first_of n (bad_met f p n x y) 0) h.lower h.upper

  -- a record of the chain is one of the file
  pub met_within : first_broken_of f ≡ 0 → (k m : ℕ) → k < n → m ≡ met f k → (1 ≤ m) × (m ≤ n)
  met_within right k m l e = let z = right_met f right k (rw h.size l) in (omega (arith, z.0), omega (arith, z.1, h.size))

  -- Record m, of 1 + v words, begins at word i.
  module _ (m v i : ℕ) (low : 1 ≤ m) (q : v ≡ width r s) (a : i + (1 + v) ≡ 5 + m * (1 + v)) where
    begins : i ≡ record_at_of f m
    begins = let b : i ≡ 5 + (m - 1) * (1 + v) = omega (arith, record_end m (1 + v) low) in
        b ∙ ap (λ (x : ℕ). 5 + (m - 1) * (1 + x)) (q ∙ sym (ap₂ width h.lower h.upper))

    pub ends : m ≤ n → length f ≡ file_bytes n r s → 4 * i + 4 * (1 + v) ≤ length f
    ends most long = let b : n * (1 + v) ≡ n * (1 + width r s) = ap (λ (x : ℕ). n * (1 + x)) q in omega (arith, mul-le-mul_right (1 + v) most)

    module _ (k : ℕ) (e : m ≡ met f k) where
      pub met_next : file_word f i ≡ met f (k + 1)
      unfolding met
      met_next = ap (file_word f) (begins ∙ ap (record_at_of f) e) ∙ ap (met f) (sym (add-one k))

      pub next_lent : file_word (part f i (1 + v)) 0 ≡ met f (k + 1)
      next_lent = let z : i + 0 ≡ i = omega arith in part_word f i (1 + v) 0 (omega arith) ∙ ap (file_word f) z ∙ met_next

      -- a used word of the row lent on
      pub word_lent : (κ : Kind) (x y : ℕ) → Used n r s k κ x y → file_word (part f i (1 + v)) (1 + place r s κ x y)
          ≡ file_word f (record_at_of f (met f k) + (1 + place r s κ x y))
      word_lent κ x y u = part_word f i (1 + v) (1 + place r s κ x y) (omega (arith, place_lt r s κ x y (room n r s k κ x y u)))
          ∙ ap (λ (z : ℕ). file_word f (z + (1 + place r s κ x y))) (begins ∙ ap (record_at_of f) e)

      pub bad_lent : (p : ℕ) → k < n → bad_row_of p n r s k (λ κ x y. file_word (part f i (1 + v)) (1 + place r s κ x y)) ≡ bad_met f p n r s k
      bad_lent p l = bad_same p n r s k l _ _ word_lent

-- Record m of 1 + v words, as code lends it on: where it ends, the number that it begins with, and its row.
lent_is : (f : List ℕ) (m w i : ℕ) → 5 + (m - 1) * w ≡ i → record_of f m w ≡ take (4 * i + 4 * w - 4 * i) (drop (4 * i) f)
lent_is f m w i e = let z : 4 * w ≡ 4 * i + 4 * w - 4 * i = omega arith in rw (e, ← z) refl

module _ (f : List ℕ) (n r s : ℕ) (h : Headed f n r s) (m v : ℕ) (low : 1 ≤ m) (q : v ≡ width r s) where
  abbrev begin : ℕ
  begin = 5 + (m - 1) * (1 + v)

  pub record_fits : m ≤ n → length f ≡ file_bytes n r s → 4 * (5 + m * (1 + v)) ≤ length f
  record_fits most long =
      omega (arith, record_end m (1 + v) low, ends f n r s h m v begin low q (record_end m (1 + v) low) most long)

  module _ (k : ℕ) (e : m ≡ met f k) where
    pub record_next : file_word (record_of f m (1 + v)) 0 ≡ met f (k + 1)
    record_next = rw (lent_is f m (1 + v) begin refl) (next_lent f n r s h m v begin low q (record_end m (1 + v) low) k e)

    pub record_word : (κ : Kind) (x y : ℕ) → Used n r s k κ x y → file_word (record_of f m (1 + v)) (1 + place r s κ x y)
        ≡ file_word f (record_at_of f (met f k) + (1 + place r s κ x y))
    record_word κ x y u = rw (lent_is f m (1 + v) begin refl) (word_lent f n r s h m v begin low q (record_end m (1 + v) low) k e κ x y u)

    pub record_bad : (p : ℕ) → k < n → bad_row_of p n r s k (λ κ x y. file_word (record_of f m (1 + v)) (1 + place r s κ x y)) ≡ bad_met f p n r s k
    record_bad p l = bad_same p n r s k l _ _ record_word
