-- Laws of text that is put into a buffer, and of a number's decimal digits.
use Rattle.std.specs.Prelude.{Bool, true, false, ◌≢◌, ◌≡◌, refl, List, [], ◌∷◌, ◌++◌}
use Rattle.std.specs.Prelude.{ℕ, zero, suc, ◌+◌, ◌^◌, ◌/◌, ◌%◌, ◌<◌, ◌≤◌, ltb, eqb, length, get_or, take, drop, set}
use Rattle.std.proofs.Common.{sym, ap, ◌∙◌, add-one, arith, lt-ltb, le-ltb, eq-eqb, ne_eqb}
use Rattle.std.proofs.Common.{append-nil, append_assoc, length-append, length-drop, take_all, take-suc, drop-cons}
use Rattle.std.proofs.Math.Nat.{pow-succ'}
use Rattle.std.proofs.lemmas.List.{set_at}
use Rattle.algebra.specs.Generators.{pick}
use Rattle.lists.specs.Lists.{rows_of}
use Rattle.table.specs.Lister.{text, digits, decimal, named}
use Rattle.listing.specs.Lines.{Puts, last_line_of}

-- no bytes; one text after another; one byte
pub puts_none : (at : ℕ) (a : List ℕ) → Puts at [] a a at
puts_none at a = record { ends = omega arith; words = λ pre d l e. e ∙ ap (λ (x : List ℕ). x ++ drop at d) (sym (append-nil pre)) }

pub puts_then : (at : ℕ) (t u : List ℕ) {a b c : List ℕ} {v w : ℕ} → Puts at t a b v → Puts v u b c w → Puts at (t ++ u) a c w
puts_then at t u {a} {b} {c} {v} {w} f g = record {
  ends = g.ends ∙ (let n = length-append t u in let p = f.ends in omega (arith, n, p));
  words = λ pre d l e.
      g.words (pre ++ t) d (length-append pre t ∙ ap (λ (n : ℕ). n + length t) l ∙ sym f.ends) (f.words pre d l e)
      ∙ ap (λ (x : List ℕ). x ++ drop w d) (append_assoc pre t u);
}

pub puts_one : (at x : ℕ) (a : List ℕ) → at < length a → Puts at (x ∷ []) a (set a at x) (at + 1)
puts_one at x a h = record { ends = refl; words = put }
  where
    put : (pre d : List ℕ) → length pre ≡ at → a ≡ pre ++ drop at d → set a at x ≡ (pre ++ (x ∷ [])) ++ drop (at + 1) d
    put pre d l e =
        let n : length a ≡ length pre + length (drop at d) = ap length e ∙ length-append pre (drop at d) in
        let m : at < length d = omega (arith, length-drop at d) in
        ap (λ (y : List ℕ). set y at x) (e ∙ ap (λ (y : List ℕ). pre ++ y) (drop-cons d at 0 m))
        ∙ set_at pre _ _ x at l
        ∙ sym (ap (λ (k : ℕ). (pre ++ (x ∷ [])) ++ drop k d) (add-one at) ∙ append_assoc pre (x ∷ []) (drop (suc at) d))

-- the same text, and the same end
pub puts_same : {at : ℕ} {t u a b : List ℕ} {v : ℕ} → Puts at t a b v → t ≡ u → Puts at u a b v
puts_same {at} {t} {u} {a} {b} {v} f e = rw (← e) f

-- one text after another, with a blank between
pub puts_blank : (at : ℕ) (t u : List ℕ) {a b c : List ℕ} {v w : ℕ} → Puts at t a b v → Puts v (text " " ++ u) b c w → Puts at (t ++ text " " ++ u) a c w
puts_blank at t u f g = puts_same (puts_then at t (text " " ++ u) f g) (sym (append_assoc t (text " ") u))

-- a loop that puts the bytes of t: none yet, one more, all
pub puts_start : (at : ℕ) (t a : List ℕ) → Puts at (take 0 t) a a (at + 0)
puts_start at t a = let z : at + 0 ≡ at = omega arith in rw z (puts_none at a)

pub puts_more : (at j x : ℕ) (t a b : List ℕ) → Puts at (take j t) a b (at + j) → j < length t → x ≡ get_or t j 0 → at + j < length b
    → Puts at (take (j + 1) t) a (set b (at + j) x) (at + (j + 1))
puts_more at j x t a b f h e l =
    let z : at + j + 1 ≡ at + (j + 1) = omega arith in
    rw (← z, add-one j, take-suc t j 0 h, ← e) (puts_then at (take j t) (x ∷ []) f (puts_one (at + j) x b l))

pub puts_all : (at j n : ℕ) (t a b : List ℕ) → Puts at (take j t) a b (at + j) → length t ≤ j → j ≡ n → Puts at t a b (at + n)
puts_all at j n t a b f h e = rw (← e) (puts_same f (take_all j t h))

-- the last digit of a number that has more
digits_next : (m n : ℕ) (rest : List ℕ) → 10 ≤ n → digits (suc m) n rest ≡ digits m (n / 10) ((48 + n % 10) ∷ rest)
unfolding digits
digits_next m n rest h = rw (le-ltb n 10 h)

-- digits before the rest of a text
digits_rest : (m n : ℕ) (rest : List ℕ) → digits m n rest ≡ digits m n [] ++ rest
unfolding digits
digits_rest zero n rest = refl
digits_rest (suc m) n rest = go (ltb n 10) (digits_rest m (n / 10) ((48 + n % 10) ∷ rest)) (digits_rest m (n / 10) ((48 + n % 10) ∷ []))
  where
    go : (b : Bool) → digits m (n / 10) ((48 + n % 10) ∷ rest) ≡ digits m (n / 10) [] ++ ((48 + n % 10) ∷ rest)
        → digits m (n / 10) ((48 + n % 10) ∷ []) ≡ digits m (n / 10) [] ++ ((48 + n % 10) ∷ [])
        → pick b ((48 + n) ∷ rest) (digits m (n / 10) ((48 + n % 10) ∷ rest)) ≡ pick b ((48 + n) ∷ []) (digits m (n / 10) ((48 + n % 10) ∷ [])) ++ rest
    go true e f = refl
    go false e f = e ∙ sym (ap (λ (l : List ℕ). l ++ rest) f ∙ append_assoc (digits m (n / 10) []) ((48 + n % 10) ∷ []) rest)

-- more room for digits than a number has changes nothing
digits_more : (m n : ℕ) (rest : List ℕ) → n < 10 ^ suc m → digits (suc (suc m)) n rest ≡ digits (suc m) n rest
unfolding digits
digits_more zero n rest h = rw (lt-ltb n 10 h)
digits_more (suc m) n rest h = go (ltb n 10) (digits_more m (n / 10) ((48 + n % 10) ∷ rest) (let p = pow-succ' 10 (suc m) in omega (arith, p)))
  where
    go : (b : Bool) → digits (suc (suc m)) (n / 10) ((48 + n % 10) ∷ rest) ≡ digits (suc m) (n / 10) ((48 + n % 10) ∷ rest)
        → pick b ((48 + n) ∷ rest) (digits (suc (suc m)) (n / 10) ((48 + n % 10) ∷ rest))
        ≡ pick b ((48 + n) ∷ rest) (digits (suc m) (n / 10) ((48 + n % 10) ∷ rest))
    go true e = refl
    go false e = e

digits_length : (m n : ℕ) (rest : List ℕ) → length (digits m n rest) ≤ m + length rest
unfolding digits
digits_length zero n rest = omega arith
digits_length (suc m) n rest = go (ltb n 10) (digits_length m (n / 10) ((48 + n % 10) ∷ rest))
  where
    go : (b : Bool) → length (digits m (n / 10) ((48 + n % 10) ∷ rest)) ≤ m + suc (length rest)
        → length (pick b ((48 + n) ∷ rest) (digits m (n / 10) ((48 + n % 10) ∷ rest))) ≤ suc m + length rest
    go true h = omega arith
    go false h = omega arith

-- a number of one digit, and of more; a number below 10⁹ has at most nine
pub decimal_one : (n : ℕ) → n < 10 → (48 + n) ∷ [] ≡ decimal n
unfolding digits
decimal_one n h = rw (lt-ltb n 10 h)

pub decimal_next : (n : ℕ) → 10 ≤ n → n < 4294967296 → decimal (n / 10) ++ ((48 + n % 10) ∷ []) ≡ decimal n
decimal_next n a b =
    sym (digits_next 9 n [] a ∙ sym (digits_more 8 (n / 10) ((48 + n % 10) ∷ []) (omega arith)) ∙ digits_rest 10 (n / 10) ((48 + n % 10) ∷ []))

pub decimal_nine : (n : ℕ) → n < 1000000000 → length (decimal n) ≤ 9
decimal_nine n h = rw (digits_more 8 n [] h) (digits_length 9 n [])

-- a row's first word, and a later one; one word more in a row
pub word_first : (j x : ℕ) → j ≡ 0 → decimal x ≡ pick (eqb j 0) [] (text " ") ++ decimal x
word_first j x h = rw (eq-eqb j 0 h)

pub word_later : (j x : ℕ) → j ≢ 0 → text " " ++ decimal x ≡ pick (eqb j 0) [] (text " ") ++ decimal x
word_later j x h = rw (ne_eqb j 0 h)

pub row_more : (j : ℕ) (f : ℕ → List ℕ) → rows_of j f ++ f j ≡ rows_of (j + 1) f
row_more j f = ap (λ (n : ℕ). rows_of n f) (sym (add-one j))

-- the last line without a zero pivot, and with one in row k
pub last_regular : (k : ℕ) → k ≡ 0 → text "regular\n" ≡ last_line_of k
last_regular k h = rw (eq-eqb k 0 h)

pub last_singular : (k : ℕ) → k ≢ 0 → named "singular" k ++ text "\n" ≡ last_line_of k
last_singular k h = rw (ne_eqb k 0 h)
