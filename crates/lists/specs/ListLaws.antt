-- Laws of lists given by their words, and by rows.
use Rattle.std.specs.Prelude.{Bool, true, false, ◌||◌, ◌⊎◌, ◌↔◌, ◌≡◌, refl, ◌∷◌, List, ◌++◌, ℕ, zero, suc, ◌+◌, ◌-◌, ◌*◌, ◌<◌, ◌≤◌, length, drop, get_or}
use Rattle.std.proofs.Common.{⊎_elim, inl, inr, ap₂, sym, ap, ◌∙◌, append_assoc, not-suc-le-zero, le_of_suc-le-suc, zero-mul, suc-mul, eq-or-lt_of_le, arith, length-append, take_at, drop_at, get_or-append-add}
use Rattle.std.proofs.Math.Arith.{digits_lt}
use Rattle.std.proofs.Math.ListN.{get_or-append}
use borrow.Rule.Slice.PartMut.{put_mid, Post-is}
use Rattle.lists.specs.Lists.{tabulate, rows_of, some, first_of}

-- true is not false
pub clash : {X : Type 0} → true ≡ false → X
clash e = absurd (let z : ◌≡◌ {A = ℕ} 0 1 = cc in omega arith)

pub length_tabulate {ℓ} : {X : Type ℓ} (n : ℕ) (f : ℕ → X) → length (tabulate n f) ≡ n
length_tabulate zero f = refl
length_tabulate (suc n) f = ap suc (length_tabulate n (λ i. f (suc i)))

pub get_d_tabulate : (n : ℕ) (f : ℕ → ℕ) (i : ℕ) → i < n → get_or (tabulate n f) i 0 ≡ f i
get_d_tabulate zero f i h = absurd (not-suc-le-zero h)
get_d_tabulate (suc n) f zero h = refl
get_d_tabulate (suc n) f (suc i) h = get_d_tabulate n (λ i. f (suc i)) i (le_of_suc-le-suc h)

-- of any element, with any one that stands for what lies past the end
pub get_d_front {ℓ} : {X : Type ℓ} (n : ℕ) (f : ℕ → X) (l : List X) (z : X) (i : ℕ) → i < n → get_or (tabulate n f ++ l) i z ≡ f i
get_d_front zero f l z i h = absurd (not-suc-le-zero h)
get_d_front (suc n) f l z zero h = refl
get_d_front (suc n) f l z (suc i) h = get_d_front n (λ i. f (suc i)) l z i (le_of_suc-le-suc h)

pub get_d_here : (n : ℕ) (f : ℕ → ℕ) (l : List ℕ) (i : ℕ) → i < n → get_or (tabulate n f ++ l) i 0 ≡ f i
get_d_here n f l = get_d_front n f l 0

pub get_d_skip : (n : ℕ) (f : ℕ → ℕ) (l : List ℕ) (i : ℕ) → get_or (tabulate n f ++ l) (n + i) 0 ≡ get_or l i 0
get_d_skip n f l i = ap (λ (m : ℕ). get_or (tabulate n f ++ l) (m + i) 0) (sym (length_tabulate n f)) ∙ get_or-append-add (tabulate n f) l i 0

pub length_rows : (g : ℕ → List ℕ) (w : ℕ) → ((k : ℕ) → length (g k) ≡ w) → (n : ℕ) → length (rows_of n g) ≡ n * w
length_rows g w h zero = sym (zero-mul w)
length_rows g w h (suc n) = length-append (rows_of n g) (g n) ∙ rw (length_rows g w h n, h n, suc-mul)

-- word j of row k
pub get_d_rows : (g : ℕ → List ℕ) (w : ℕ) → ((k : ℕ) → length (g k) ≡ w) → (n k j : ℕ) → k < n → j < w → get_or (rows_of n g) (k * w + j) 0 ≡ get_or (g k) j 0
get_d_rows g w l zero k j h i = absurd (not-suc-le-zero h)
get_d_rows g w l (suc n) k j h i = ⊎_elim last (λ b. before b (get_d_rows g w l n k j b i)) (eq-or-lt_of_le (le_of_suc-le-suc h))
  where
    last : k ≡ n → get_or (rows_of n g ++ g n) (k * w + j) 0 ≡ get_or (g k) j 0
    last e = rw (e, ← length_rows g w l n) (get_or-append-add (rows_of n g) (g n) j 0)

    before : k < n → get_or (rows_of n g) (k * w + j) 0 ≡ get_or (g k) j 0 → get_or (rows_of n g ++ g n) (k * w + j) 0 ≡ get_or (g k) j 0
    before b ih =
        let m : k * w + j < length (rows_of n g) = omega (arith, length_rows g w l n, digits_lt {q = k} {m = n} {r = j} {c = w} b i) in
        get_or-append (rows_of n g) (g n) 0 (k * w + j) m ∙ ih

-- the same where more follows
pub get_d_rows_more : (g : ℕ → List ℕ) (w : ℕ) → ((k : ℕ) → length (g k) ≡ w) → (n k j : ℕ) (rest : List ℕ) → k < n → j < w
    → get_or (rows_of n g ++ rest) (k * w + j) 0 ≡ get_or (g k) j 0
get_d_rows_more g w l n k j rest h i =
    let m : k * w + j < length (rows_of n g) = omega (arith, length_rows g w l n, digits_lt {q = k} {m = n} {r = j} {c = w} h i) in
    get_or-append (rows_of n g) rest 0 (k * w + j) m ∙ get_d_rows g w l n k j h i

-- what the search has found, and that it found none
pub found : (n : ℕ) (f : ℕ → Bool) (at k : ℕ) → first_of n f at ≡ suc k → (at ≤ k) × (k < at + n) × (f k ≡ true) × ((j : ℕ) → at ≤ j → j < k → f j ≡ false)
unfolding first_of
found zero f at k e = absurd (omega arith)
found (suc n) f at k e = go (f at) refl e (λ q. found n f (suc at) k q)
  where
    go : (b : Bool) → f at ≡ b → elim b as (λ (x : Bool). ℕ) [ true ↦ suc at | false ↦ first_of n f (suc at) ] ≡ suc k
        → (first_of n f (suc at) ≡ suc k → (suc at ≤ k) × (k < suc at + n) × (f k ≡ true) × ((j : ℕ) → suc at ≤ j → j < k → f j ≡ false))
        → (at ≤ k) × (k < at + suc n) × (f k ≡ true) × ((j : ℕ) → at ≤ j → j < k → f j ≡ false)
    go true p q ih = let z : at ≡ k = omega arith in (omega arith, omega arith, rw (← z) p, λ j a b. absurd (omega arith))
    go false p q ih = let i = ih q in (omega (arith, i.0), omega (arith, i.1), i.2, λ j a b. earlier j (eq-or-lt_of_le a) b i.3)
      where
        earlier : (j : ℕ) → (at ≡ j) ⊎ (at < j) → j < k → ((j : ℕ) → suc at ≤ j → j < k → f j ≡ false) → f j ≡ false
        earlier j (inl z) b h = rw (← z) p
        earlier j (inr l) b h = h j l b

pub none : (n : ℕ) (f : ℕ → Bool) (at : ℕ) → first_of n f at ≡ 0 → (j : ℕ) → at ≤ j → j < at + n → f j ≡ false
unfolding first_of
none zero f at e j a b = absurd (omega arith)
none (suc n) f at e j a b = go (f at) refl e (λ q c d. none n f (suc at) q j c d)
  where
    go : (b : Bool) → f at ≡ b → ◌≡◌ {A = ℕ} (elim b as (λ (x : Bool). ℕ) [ true ↦ suc at | false ↦ first_of n f (suc at) ]) 0
        → (first_of n f (suc at) ≡ 0 → suc at ≤ j → j < suc at + n → f j ≡ false) → f j ≡ false
    go true p q ih = absurd (omega arith)
    go false p q ih = pick' (eq-or-lt_of_le a)
      where
        pick' : (at ≡ j) ⊎ (at < j) → f j ≡ false
        pick' (inl z) = rw (← z) p
        pick' (inr l) = ih q l (omega arith)

pub none_first : (n : ℕ) (f : ℕ → Bool) (at : ℕ) → ((j : ℕ) → at ≤ j → j < at + n → f j ≡ false) → first_of n f at ≡ 0
unfolding first_of
none_first zero f at e = refl
none_first (suc n) f at e = rw (e at (omega arith) (omega arith), first_of) (none_first n f (suc at) (λ j a b. e j (omega arith) (omega arith)))

-- searches by equal tests
pub same_first : (n : ℕ) (f g : ℕ → Bool) (at : ℕ) → ((j : ℕ) → at ≤ j → j < at + n → f j ≡ g j) → first_of n f at ≡ first_of n g at
unfolding first_of
same_first zero f g at e = refl
same_first (suc n) f g at e = ap₂ (λ (b : Bool) (m : ℕ). elim b as (λ (x : Bool). ℕ) [ true ↦ suc at | false ↦ m ])
    (e at (omega arith) (omega arith)) (same_first n f g (suc at) (λ j a b. e j (omega arith) (omega arith)))

pub or_none : (a : Bool) → (a || false) ≡ a
or_none true = refl
or_none false = refl

pub or_false : (a b : Bool) → (a || b) ≡ false → (a ≡ false) × (b ≡ false)
or_false true b e = clash e
or_false false b e = (refl, e)

pub some_false : (n : ℕ) (f : ℕ → Bool) → some n f ≡ false → (j : ℕ) → j < n → f j ≡ false
unfolding some
some_false zero f e j h = absurd (omega arith)
some_false (suc n) f e j h = ⊎_elim (λ (q : suc j ≡ suc n). let z : n ≡ j = omega arith in rw z at (or_false (some n f) (f n) e).1)
    (λ l. some_false n f (or_false (some n f) (f n) e).0 j (le_of_suc-le-suc l)) (eq-or-lt_of_le h)

pub false_some : (n : ℕ) (f : ℕ → Bool) → ((j : ℕ) → j < n → f j ≡ false) → some n f ≡ false
unfolding some
false_some zero f e = refl
false_some (suc n) f e = rw (false_some n f (λ j h. e j (omega arith)), e n (omega arith))

pub some_same : (n : ℕ) (f g : ℕ → Bool) → ((j : ℕ) → j < n → f j ≡ g j) → some n f ≡ some n g
unfolding some
some_same zero f g e = refl
some_same (suc n) f g e = ap₂ ◌||◌ (some_same n f g (λ j h. e j (omega arith))) (e n (omega arith))

-- the turns of a loop that searches: k is the next to try
pub search_start : (n : ℕ) (f : ℕ → Bool) → first_of n f 0 ≡ first_of (n - 0) f 0
search_start n f = let e : n ≡ n - 0 = omega arith in ap (λ (m : ℕ). first_of m f 0) e

pub search_next : (n : ℕ) (f : ℕ → Bool) (k : ℕ) → k < n → f k ≡ false → first_of (n - k) f k ≡ first_of (n - (k + 1)) f (k + 1)
unfolding first_of
search_next n f k h e =
    let a : n - k ≡ suc (n - (k + 1)) = omega arith in let b : k + 1 ≡ suc k = omega arith in
    ap (λ (m : ℕ). first_of m f k) a ∙ ap (λ (b : Bool). elim b as (λ (x : Bool). ℕ) [ true ↦ suc k | false ↦ first_of (n - (k + 1)) f (suc k) ]) e
    ∙ ap (first_of (n - (k + 1)) f) (sym b)

pub search_hit : (n : ℕ) (f : ℕ → Bool) (k : ℕ) → k < n → f k ≡ true → first_of (n - k) f k ≡ k + 1
unfolding first_of
search_hit n f k h e =
    let a : n - k ≡ suc (n - (k + 1)) = omega arith in let b : suc k ≡ k + 1 = omega arith in
    ap (λ (m : ℕ). first_of m f k) a ∙ ap (λ (b : Bool). elim b as (λ (x : Bool). ℕ) [ true ↦ suc k | false ↦ first_of (n - (k + 1)) f (suc k) ]) e ∙ b

pub search_end : (n : ℕ) (f : ℕ → Bool) (k : ℕ) → n ≤ k → first_of (n - k) f k ≡ 0
unfolding first_of
search_end n f k h = let a : n - k ≡ 0 = omega arith in ap (λ (m : ℕ). first_of m f k) a

pub tabulate_same {ℓ} : {X : Type ℓ} (n : ℕ) (f g : ℕ → X) → ((i : ℕ) → i < n → f i ≡ g i) → tabulate n f ≡ tabulate n g
tabulate_same zero f g e = refl
tabulate_same (suc n) f g e = ap₂ ◌∷◌ (e 0 (omega arith)) (tabulate_same n (λ i. f (suc i)) (λ i. g (suc i)) (λ i h. e (suc i) (omega arith)))

-- rows are the same where each of them is
pub rows_same : (n : ℕ) (f g : ℕ → List ℕ) → ((k : ℕ) → k < n → f k ≡ g k) → rows_of n f ≡ rows_of n g
rows_same zero f g e = refl
rows_same (suc n) f g e = ap₂ ◌++◌ (rows_same n f g (λ k h. e k (omega arith))) (e n (omega arith))

-- one turn of a loop over rows, each written to the part of w words that is lent on: the buffer so far is a
pub rows_part : (g : ℕ → List ℕ) (d : List ℕ) (w : ℕ) → ((k : ℕ) → length (g k) ≡ w) → (k at : ℕ) {a b : List ℕ} → a ≡ rows_of k g ++ drop (k * w) d
    → at ≡ k * w → b ≡ g k
    → put_mid at (at + w - at) a b ≡ rows_of (k + 1) g ++ drop ((k + 1) * w) d
rows_part g d w l k at e q y =
    let n : length (rows_of k g) ≡ at = length_rows g w l k ∙ sym q in
    let z : k + 1 ≡ suc k = omega arith in
    rw (e, y, z, suc-mul, ← q, take_at (rows_of k g) (drop at d) at n)
    (ap (λ (m : List ℕ). rows_of k g ++ (g k ++ m)) (ap (λ (m : List ℕ). drop (at + w - at) m) (drop_at (rows_of k g) (drop at d) at n)
    ∙ Post-is at (at + w) d (omega arith))
    ∙ sym (append_assoc (rows_of k g) (g k) (drop (at + w) d)))

-- the search finds k exactly where f k is true and nothing before it is
pub first_is : (n : ℕ) (f : ℕ → Bool) (at k : ℕ) → at ≤ k → k < at + n → f k ≡ true → ((j : ℕ) → at ≤ j → j < k → f j ≡ false) → first_of n f at ≡ suc k
unfolding first_of
first_is zero f at k a b t e = absurd (omega arith)
first_is (suc n) f at k a b t e = ⊎_elim here (λ l. later l (first_is n f (suc at) k l (omega arith) t (λ j c d. e j (omega arith) d))) (eq-or-lt_of_le a)
  where
    here : at ≡ k → first_of (suc n) f at ≡ suc k
    here z = let q : f at ≡ true = ap f z ∙ t in rw (first_of, q) (ap suc z)

    later : at < k → first_of n f (suc at) ≡ suc k → first_of (suc n) f at ≡ suc k
    later l q = rw (first_of, e at (omega arith) l) q

pub first_le : (n : ℕ) (f : ℕ → Bool) → first_of n f 0 ≤ n
first_le n f = go (first_of n f 0) refl
  where
    go : (m : ℕ) → first_of n f 0 ≡ m → m ≤ n
    go zero e = omega arith
    go (suc m) e = omega (arith, (found n f 0 m e).1)

pub some_true : (n : ℕ) (f : ℕ → Bool) → some n f ≡ true → (j : ℕ) × (j < n) × (f j ≡ true)
unfolding some
some_true zero f e = clash (sym e)
some_true (suc n) f e = go (f n) refl e (λ q. some_true n f q)
  where
    go : (b : Bool) → f n ≡ b → (some n f || b) ≡ true → (some n f ≡ true → (j : ℕ) × (j < n) × (f j ≡ true)) → (j : ℕ) × (j < suc n) × (f j ≡ true)
    go true q e ih = (n, omega arith, q)
    go false q e ih = let z = ih (sym (or_none (some n f)) ∙ e) in (z.0, omega (arith, z.1), z.2)

-- a search by a test of Q finds the first with Q, and none where none has it
module _ (n : ℕ) (f : ℕ → Bool) (Q : ℕ → Type 0) (tells : (k : ℕ) → k < n → (f k ≡ true) ↔ Q k) (within : (k : ℕ) → Q k → k < n) where
  has : (k : ℕ) → Q k → f k ≡ true
  has k q = (tells k (within k q)).1 q

  lacks : (k : ℕ) → k < n → (Q k → ⊥) → f k ≡ false
  lacks k h e = go (f k) refl
    where
      go : (b : Bool) → f k ≡ b → b ≡ false
      go true q = absurd (e ((tells k h).0 q))
      go false q = refl

  pub first_with : (k : ℕ) → (first_of n f 0 ≡ suc k) ↔ (Q k × ((m : ℕ) → m < k → Q m → ⊥))
  first_with k = (there, back)
    where
      there : first_of n f 0 ≡ suc k → Q k × ((m : ℕ) → m < k → Q m → ⊥)
      there e = let z = found n f 0 k e in ((tells k (omega (arith, z.1))).0 z.2, λ m h q. clash (sym (has m q) ∙ z.3 m (omega arith) h))

      back : Q k × ((m : ℕ) → m < k → Q m → ⊥) → first_of n f 0 ≡ suc k
      back z = let h = within k z.0 in first_is n f 0 k (omega arith) (omega arith) (has k z.0) (λ m a l. lacks m (omega arith) (z.1 m l))

  pub none_with : (first_of n f 0 ≡ 0) ↔ ((k : ℕ) → Q k → ⊥)
  none_with = (
    λ e k q. clash (sym (has k q) ∙ none n f 0 e k (omega arith) (omega (arith, within k q))),
    λ e. none_first n f 0 (λ k a h. lacks k (omega arith) (e k)),
  )
