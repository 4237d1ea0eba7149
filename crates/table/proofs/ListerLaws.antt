-- The lister's three cases, and that its numbers are decimal.
use Rattle.std.specs.Prelude.{Bool, true, false, ◌≢◌, ◌≡◌, refl, List, [], ◌∷◌, ℕ, zero, suc, ◌+◌, ◌*◌, ◌-◌, ◌/◌, ◌%◌, ◌<◌, ◌≤◌, ltb, length, get_or}
use Rattle.std.proofs.Common.{ap, ◌∙◌, le_of_suc-le-suc, arith, lt-ltb, le-ltb, ltb-true, ltb-false, eq-eqb, ne_eqb}
use Rattle.algebra.specs.Generators.{pick}
use Rattle.table.specs.RowFile.{head_p, head_n}
use Rattle.table.specs.Replies.{Accepted, refuse}
use Rattle.table.specs.Calls.{read_reply, read_t}
use Rattle.table.specs.Lister.{lister, listing, refusal, room, text, digits, decimal}

-- The lister: what it prints for too long a file, for an accepted one, and for a refused one.
pub too_long : (f : List ℕ) → 41492 < length f → lister f ≡ refusal (refuse 9 6 0)
unfolding lister
too_long f h = rw (lt-ltb 41492 (length f) h)

pub lists : (f : List ℕ) → length f ≤ 41492 → Accepted (read_reply f (room f)) → lister f ≡ listing (head_p f) (head_n f) (read_t f (room f))
unfolding lister
lists f h ok = rw (le-ltb 41492 (length f) h, eq-eqb (read_reply f (room f)).number 0 ok)

pub refuses : (f : List ℕ) → length f ≤ 41492 → (read_reply f (room f)).number ≢ 0 → lister f ≡ refusal (read_reply f (room f))
unfolding lister
refuses f h n = rw (le-ltb 41492 (length f) h, ne_eqb (read_reply f (room f)).number 0 n)

-- the number that digits stand for, after the number a
abbrev pub number_from : ℕ → List ℕ → ℕ
number_from a [] = a
number_from a (c ∷ cs) = number_from (10 * a + (c - 48)) cs

abbrev tens : ℕ → ℕ
tens zero = 1
tens (suc m) = 10 * tens m

digits_read : (m n : ℕ) (rest : List ℕ) → n < 10 * tens m → number_from 0 (digits (suc m) n rest) ≡ number_from n rest
unfolding digits
digits_read zero n rest h = let e : 10 * 0 + (48 + n - 48) ≡ n = omega arith in rw (lt-ltb n 10 (omega arith)) (ap (λ (x : ℕ). number_from x rest) e)
digits_read (suc m) n rest h = go (ltb n 10) (digits_read m (n / 10) ((48 + n % 10) ∷ rest) (omega arith))
  where
    one : 10 * 0 + (48 + n - 48) ≡ n
    one = omega arith

    two : 10 * (n / 10) + (48 + n % 10 - 48) ≡ n
    two = omega arith

    go : (b : Bool) → number_from 0 (digits (suc m) (n / 10) ((48 + n % 10) ∷ rest)) ≡ number_from (n / 10) ((48 + n % 10) ∷ rest)
        → number_from 0 (pick b ((48 + n) ∷ rest) (digits (suc m) (n / 10) ((48 + n % 10) ∷ rest))) ≡ number_from n rest
    go true ih = ap (λ (x : ℕ). number_from x rest) one
    go false ih = ih ∙ ap (λ (x : ℕ). number_from x rest) two

pub decimal_read : (n : ℕ) → n < 10000000000 → number_from 0 (decimal n) ≡ n
decimal_read n h = digits_read 9 n [] h

-- its bytes are digits,
abbrev pub Digits : List ℕ → Type 0
Digits cs = (i : ℕ) → i < length cs → (48 ≤ get_or cs i 0) × (get_or cs i 0 ≤ 57)

digit_cons : (c : ℕ) (cs : List ℕ) → 48 ≤ c → c ≤ 57 → Digits cs → Digits (c ∷ cs)
digit_cons c cs a b t zero h = (a, b)
digit_cons c cs a b t (suc i) h = t i (le_of_suc-le-suc h)

digits_are : (m n : ℕ) (rest : List ℕ) → Digits rest → Digits (digits m n rest)
unfolding digits
digits_are zero n rest t = t
digits_are (suc m) n rest t = go (ltb n 10) refl (digits_are m (n / 10) ((48 + n % 10) ∷ rest) (digit_cons (48 + n % 10) rest (omega arith) (omega arith) t))
  where
    go : (b : Bool) → ltb n 10 ≡ b → Digits (digits m (n / 10) ((48 + n % 10) ∷ rest))
        → Digits (pick b ((48 + n) ∷ rest) (digits m (n / 10) ((48 + n % 10) ∷ rest)))
    go true e ih = let l : n < 10 = ltb-true n 10 e in digit_cons (48 + n) rest (omega arith) (omega arith) t
    go false e ih = ih

pub decimal_digits : (n : ℕ) → Digits (decimal n)
decimal_digits n = digits_are 10 n [] (λ i h. absurd (omega (arith, h)))

-- and the first is not "0" unless the number is 0
pub decimal_zero : decimal 0 ≡ text "0"
unfolding digits
decimal_zero = refl

digits_first : (m n : ℕ) (rest : List ℕ) → n < 10 * tens m → 0 < n → get_or (digits (suc m) n rest) 0 0 ≢ 48
unfolding digits
digits_first zero n rest h pos = rw (lt-ltb n 10 (omega arith)) (λ e. omega arith)
digits_first (suc m) n rest h pos = go (ltb n 10) refl (λ l. digits_first m (n / 10) ((48 + n % 10) ∷ rest) (omega arith) (omega arith))
  where
    go : (b : Bool) → ltb n 10 ≡ b → (10 ≤ n → get_or (digits (suc m) (n / 10) ((48 + n % 10) ∷ rest)) 0 0 ≢ 48)
        → get_or (pick b ((48 + n) ∷ rest) (digits (suc m) (n / 10) ((48 + n % 10) ∷ rest))) 0 0 ≢ 48
    go true e ih = λ q. omega arith
    go false e ih = ih (ltb-false n 10 e)

pub decimal_first : (n : ℕ) → n < 10000000000 → 0 < n → get_or (decimal n) 0 0 ≢ 48
decimal_first n h = digits_first 9 n [] h
