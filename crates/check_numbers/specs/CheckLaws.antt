-- Laws that the checks' proofs share.
use Rattle.std.specs.Prelude.{Result, Ok, Err, Bool, true, false, not, ◌≡◌, refl, List, [], ◌∷◌, ◌++◌, ◌⊎◌, ℕ, zero, suc, ◌+◌, ◌-◌, ◌*◌, ◌<◌, ◌≤◌, ltb, leb, length, get_or, take, drop}
use Rattle.std.proofs.Math.Bool.{◌||◌}
use Rattle.std.proofs.Math.Path.{sym, ap₂, fun_ext}
use Rattle.std.proofs.Common.{ap, ◌∙◌, inl, inr, le_antisymm, add-zero, add-suc, add_assoc, zero-mul, suc-mul, mul-le-mul, mul-le-mul_right, le_trans, add-one, arith, length-drop, length-take-le, get_or-take, get_or-drop, lt-ltb, le-ltb, le-leb}
use Rattle.std.proofs.Math.Decide.{dec_lt}
use Rattle.std.proofs.lemmas.Bool.{lt-leb}
use Rattle.algebra.specs.Generators.{pick}
use Rattle.algebra.specs.Kinds.{Kind, d_word, p_row, a_block, q_column, g_row, b_block, h_column, high, wide}
use Rattle.lists.specs.Lists.{some}
use Rattle.lists.specs.ListLaws.{or_none}
use Rattle.table.specs.Words.{gap, shape, full, kinds, before, width, block_size, blocks_size, place, table, table_word, bad_block, bad_row_of, outer}
use Rattle.table.proofs.WordLaws.{sizes_all, place_lt, gap_full, room, bad_same}
use Rattle.table.specs.Replies.{Reply, Check, Accepted, accept, reply, answer}
use Rattle.table.proofs.CallLaws.{AllClear, all_clear, open_checks, number_is}
use Rattle.check_numbers.specs.declared.Refusal.{Refusal}
use Rattle.check_numbers.specs.Replied.{said, Checked}

-- Tests.
pub ltb_leb : (a b : ℕ) → ltb b a ≡ not (leb a b)
ltb_leb a b = go (dec_lt b a)
  where
    go : Dec (b < a) → ltb b a ≡ not (leb a b)
    go (yes h) = rw (lt-ltb b a h, lt-leb a b h)
    go (no h) = rw (le-ltb b a (omega arith), le-leb a b (omega arith))

or_true : (a : Bool) → (a || true) ≡ true
or_true true = refl
or_true false = refl

or_assoc : (a b c : Bool) → ((a || b) || c) ≡ (a || (b || c))
or_assoc true b c = refl
or_assoc false b c = refl

-- A ladder of checks: the rung whose cause holds gives its refusal, any other one leaves the answer to the rungs below it.
pub stop : {b c : Bool} (y z : Reply) → b ≡ c → b ≡ true → y ≡ pick c y z
stop y z e h = sym (ap (λ (c : Bool). pick c y z) (sym e ∙ h))

pub pass : {b c : Bool} (y : Reply) {v z : Reply} → b ≡ c → b ≡ false → v ≡ z → v ≡ pick c y z
pass y {v} {z} e h q = q ∙ sym (ap (λ (c : Bool). pick c y z) (sym e ∙ h))

-- What the answer of checks is: none finds anything, and then they accept whatever is accepted after them; or the first that does refuses.
pub accepts : (cs : List Check) (v : Reply) → Accepted v → AllClear cs → Accepted (answer cs v)
accepts cs v ok clear = number_is (open_checks cs v (all_clear cs clear)) ∙ ok

pub answered : (cs : List Check) (r : Result (Unit {0}) Refusal) → Checked cs r → said r ≡ answer cs (accept 0)
answered cs (Ok u) clear = sym (open_checks cs (accept 0) (all_clear cs clear))
answered cs (Err refusal) stopped = stopped (accept 0)

-- a reply by its parts
pub reply_is : {n b k v n' b' k' v' : ℕ} → (n ≡ n') × (b ≡ b') × (k ≡ k') × (v ≡ v') → reply n b k v ≡ reply n' b' k' v'
reply_is e = rw (e.0, e.1, e.2, e.3)

-- an order's square
pub square_le : (r : ℕ) → r ≤ 8 → r * r ≤ 64
square_le r h = mul-le-mul h h

-- the product of a number of 32 bits with itself
pub square_fits : (n : ℕ) → n ≤ 4294967295 → n * n ≤ 18446744065119617025
square_fits n h = mul-le-mul {n₁ = n} {m₁ = n} {n₂ = 4294967295} {m₂ = 4294967295} h h

-- One more word of a search tried; the search done.
pub some_start : (f : ℕ → Bool) → false ≡ some 0 f
unfolding some
some_start f = refl

pub some_hit : (k : ℕ) (f : ℕ → Bool) → f k ≡ true → true ≡ some (k + 1) f
unfolding some
some_hit k f e = rw add-one (sym (ap (λ (b : Bool). some k f || b) e ∙ or_true (some k f)))

pub some_miss : (k : ℕ) (f : ℕ → Bool) {b : Bool} → b ≡ some k f → f k ≡ false → b ≡ some (k + 1) f
unfolding some
some_miss k f q e = rw add-one (q ∙ sym (ap (λ (b : Bool). some k f || b) e ∙ or_none (some k f)))

pub some_done : (k n : ℕ) (f : ℕ → Bool) {b : Bool} → b ≡ some k f → k ≤ n → n ≤ k → b ≡ some n f
some_done k n f e l g = e ∙ ap (λ (m : ℕ). some m f) (le_antisymm l g)

-- A search of two parts, and of a block row by row.
some_more : (n m : ℕ) (f : ℕ → Bool) → some (n + m) f ≡ (some n f || some m (λ e. f (n + e)))
unfolding some
some_more n zero f = rw add-zero (sym (or_none (some n f)))
some_more n (suc m) f = ap (λ (i : ℕ). some i f) (add-suc n m) ∙ ap (λ (b : Bool). b || f (n + m)) (some_more n m f)
    ∙ or_assoc (some n f) (some m (λ e. f (n + e))) (f (n + m))

some_grid : (h w : ℕ) (f : ℕ → Bool) → some (h * w) f ≡ some h (λ i. some w (λ j. f (i * w + j)))
unfolding some
some_grid zero w f = ap (λ (n : ℕ). some n f) (zero-mul w)
some_grid (suc h) w f = ap (λ (n : ℕ). some n f) (suc-mul h w) ∙ some_more (h * w) w f ∙ ap (λ (b : Bool). b || some w (λ j. f (h * w + j))) (some_grid h w f)

-- the same where the rows of the block are F wide and the search is as wide, or has no width
some_block : (h w F : ℕ) (f : ℕ → Bool) → (w ≡ 0) ⊎ (w ≡ F) → some (h * w) f ≡ some h (λ i. some w (λ j. f (i * F + j)))
unfolding some
some_block h w F f (inl e) = rw e (some_grid h 0 f)
some_block h w F f (inr e) = some_grid h w f ∙ ap (λ (v : ℕ). some h (λ i. some w (λ j. f (i * v + j)))) e

-- The orders around a row: each is 0 or the table's, and the table's in a row between the ends.
gap_or : (N r k : ℕ) → (gap N r k ≡ 0) ⊎ (gap N r k ≡ r)
gap_or N r k = go (outer N k)
  where
    go : (b : Bool) → (pick b 0 r ≡ 0) ⊎ (pick b 0 r ≡ r)
    go true = inl refl
    go false = inr refl

wide_or : (N r s k : ℕ) (κ : Kind) → (wide (shape N r s k) κ ≡ 0) ⊎ (wide (shape N r s k) κ ≡ wide (full r s) κ)
wide_or N r s k d_word = inr refl
wide_or N r s k p_row = gap_or N r k
wide_or N r s k a_block = gap_or N r k
wide_or N r s k q_column = inr refl
wide_or N r s k g_row = gap_or N s (suc k)
wide_or N r s k b_block = gap_or N s (suc k)
wide_or N r s k h_column = inr refl

shape_full : (N r s k : ℕ) → k < N → (k ≡ 0 → ⊥) → (k + 1 ≡ N → ⊥) → shape N r s k ≡ full r s
shape_full N r s k h a b =
    let d : suc k ≡ 0 → ⊥ = λ e. omega arith in
    let l : suc k < N = omega arith in
    rw (gap_full N r k a h, gap_full N s k a h, gap_full N r (suc k) d l, gap_full N s (suc k) d l)

-- The words of row k of N, word e of them being W e: one block, and a row block by block.
module _ (P N r s k : ℕ) (W : ℕ → ℕ) where
  abbrev word : Kind → ℕ → ℕ → ℕ
  word κ i j = W (place r s κ i j)

  -- n words from `at` on hold a bad one; a used word of a block is bad
  abbrev bad_from : (at n : ℕ) → Bool
  bad_from at n = some n (λ e. leb P (W (at + e)))

  abbrev bad_at : Kind → Bool
  bad_at κ = bad_block P N r s k word κ

  block : (κ : Kind) (at n : ℕ) {b : Bool} → b ≡ bad_from at n → at ≡ blocks_size r s (before κ) → n ≡ high (shape N r s k) κ * wide (shape N r s k) κ
      → b ≡ bad_at κ
  block κ at n e q l = e ∙ ap₂ bad_from q l
      ∙ some_block (high (shape N r s k) κ) (wide (shape N r s k) κ) (wide (full r s) κ) (λ e. leb P (W (blocks_size r s (before κ) + e))) (wide_or N r s k κ)

  by_blocks : {d p a q g b h : Bool} → d ≡ bad_at d_word → p ≡ bad_at p_row → a ≡ bad_at a_block → q ≡ bad_at q_column → g ≡ bad_at g_row → b ≡ bad_at b_block
      → h ≡ bad_at h_column
      → (d || (p || (a || (q || (g || (b || h)))))) ≡ bad_row_of P N r s k word
  unfolding bad_row_of
  by_blocks ed ep ea eq eg eb eh = ap₂ ◌||◌ ed (ap₂ ◌||◌ ep (ap₂ ◌||◌ ea (ap₂ ◌||◌ eq (ap₂ ◌||◌ eg (ap₂ ◌||◌ eb (eh ∙ sym (or_none (bad_at h_column))))))))

  -- a row, each block searched with the size that the orders around the row give it
  module _ {lower lower2 upper upper2 : ℕ} (l : lower ≡ gap N r k) (l2 : lower2 ≡ gap N r (k + 1)) (u : upper ≡ gap N s k) (u2 : upper2 ≡ gap N s (k + 1)) where
    pub end_row : {d p a q g b h : Bool} → d ≡ bad_from 0 1
        → p ≡ bad_from 1 lower → a ≡ bad_from (1 + r) (lower2 * lower) → q ≡ bad_from (1 + r + r * r) lower2
        → g ≡ bad_from (1 + r + r * r + r) upper2 → b ≡ bad_from (1 + r + r * r + r + s) (upper * upper2) → h ≡ bad_from (1 + r + r * r + r + s + s * s) upper
        → ((d || ((p || a) || q)) || ((g || b) || h)) ≡ bad_row_of P N r s k word
    end_row ed ep ea eq eg eb eh =
        let l3 : lower2 ≡ gap N r (suc k) = l2 ∙ ap (gap N r) (add-one k) in
        let u3 : upper2 ≡ gap N s (suc k) = u2 ∙ ap (gap N s) (add-one k) in
        simp or_assoc (by_blocks (block d_word _ _ ed (omega arith) (omega arith))
        (block p_row _ _ ep (omega arith) (omega arith)) (block a_block _ _ ea (omega arith) (ap₂ ◌*◌ l3 l)) (block q_column _ _ eq (omega arith) (omega arith))
        (block g_row _ _ eg (omega arith) (omega arith)) (block b_block _ _ eb (omega arith) (ap₂ ◌*◌ u u3))
        (block h_column _ _ eh (omega arith) (omega arith)))

  -- whole blocks, one after the other, are one search
  sizes_more : (xs : List Kind) (κ : Kind) → blocks_size r s (xs ++ (κ ∷ [])) ≡ blocks_size r s xs + block_size r s κ
  sizes_more [] κ = omega arith
  sizes_more (x ∷ xs) κ = omega (arith, sizes_more xs κ)

  abbrev chain : List Kind → List Kind → Bool
  chain xs [] = false
  chain xs (κ ∷ κs) = bad_from (blocks_size r s xs) (block_size r s κ) || chain (xs ++ (κ ∷ [])) κs

  from_more : (at m n : ℕ) → bad_from at (m + n) ≡ (bad_from at m || bad_from (at + m) n)
  from_more at m n = some_more m n (λ e. leb P (W (at + e))) ∙ ap (λ (f : ℕ → ℕ). bad_from at m || some n (λ e. leb P (W (f e))))
      (fun_ext (λ e. sym (add_assoc at m e)))

  chained : (xs κs : List Kind) → bad_from (blocks_size r s xs) (blocks_size r s κs) ≡ chain xs κs
  chained xs [] = sym (some_start _)
  chained xs (κ ∷ κs) = from_more (blocks_size r s xs) (block_size r s κ) (blocks_size r s κs)
      ∙ ap (λ (b : Bool). bad_from (blocks_size r s xs) (block_size r s κ) || b) (ap (λ (at : ℕ). bad_from at (blocks_size r s κs)) (sym (sizes_more xs κ))
      ∙ chained (xs ++ (κ ∷ [])) κs)

  -- so a row between the ends is one search of all its words
  module _ (h : k < N) (first : k ≡ 0 → ⊥) (last : k + 1 ≡ N → ⊥) where
    flat : (κ : Kind) → bad_from (blocks_size r s (before κ)) (block_size r s κ) ≡ bad_at κ
    flat κ = block κ (blocks_size r s (before κ)) (block_size r s κ) refl refl (rw (shape_full N r s k h first last))

    pub between : (n : ℕ) {b : Bool} → b ≡ bad_from 0 n → n ≡ width r s → b ≡ bad_row_of P N r s k word
    between n e l = e ∙ ap (bad_from 0) (l ∙ sym (sizes_all r s)) ∙ (simp or_none at (chained [] kinds))
        ∙ by_blocks (flat d_word) (flat p_row) (flat a_block) (flat q_column) (flat g_row) (flat b_block) (flat h_column)

-- The part of a table that is lent on as row k: its words are the table's, and its length.
pub row_at : (P N r s k : ℕ) (t : List ℕ) (at w : ℕ) → k < N → w ≡ width r s → at ≡ k * w
    → bad_row_of P N r s k (λ κ i j. get_or (take (at + w - at) (drop at t)) (place r s κ i j) 0) ≡ bad_row_of P N r s k (table_word (table r s t) k)
row_at P N r s k t at w h e q =
    bad_same P N r s k h _ _ (λ κ i j u. get_or-take (at + w - at) (drop at t) (place r s κ i j) 0 (omega (arith, place_lt r s κ i j (room N r s k κ i j u)))
    ∙ get_or-drop at t (place r s κ i j) 0 ∙ ap (λ (a : ℕ). get_or t (a + place r s κ i j) 0) (q ∙ ap (λ (m : ℕ). k * m) e))

pub part_length : (t : List ℕ) (at w : ℕ) → at + w ≤ length t → length (take (at + w - at) (drop at t)) ≡ w
part_length t at w h = length-take-le (at + w - at) (drop at t) (omega (arith, length-drop at t)) ∙ omega arith

-- row k of n rows ends within the table, and the next one starts where it ends
pub row_end : (n k w : ℕ) {at v l : ℕ} → k < n → w ≡ v → at ≡ k * w → n * v ≤ l → at + w ≤ l
row_end n k w h e q f = rw (q, ← suc-mul) (le_trans (mul-le-mul_right w h) (rw e f))

pub next_row : (k w : ℕ) {at : ℕ} → at ≡ k * w → at + w ≡ (k + 1) * w
next_row k w e = rw (e, add-one, suc-mul)
