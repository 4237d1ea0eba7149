-- Replies; a check is a cause and its refusal; how a list of checks is answered; the causes; a buffer after a call.
use Rattle.std.specs.Prelude.{Bool, true, false, ◌&&◌, not, List, [], ◌∷◌, ◌≡◌, ℕ, zero, suc, ◌+◌, ◌*◌, ◌<◌, ltb, leb, eqb, length}
use Rattle.algebra.specs.Generators.{pick}
use Rattle.field.specs.PrimeTest.{is_prime_of}
use Rattle.lists.specs.Lists.{over}

pub record Reply : Type 0 where
  pub number : ℕ
  pub buffer : ℕ
  pub row : ℕ
  pub value : ℕ

abbrev pub reply : (number buffer row value : ℕ) → Reply
reply n b k v = record { number = n; buffer = b; row = k; value = v }

-- accepted, with a value; and refused
abbrev pub accept : ℕ → Reply
accept v = reply 0 0 0 v

abbrev pub refuse : ℕ → ℕ → ℕ → Reply
refuse n b k = reply n b k 0

abbrev pub Accepted : Reply → Type 0
Accepted y = y.number ≡ 0

-- from C the reply is one number
abbrev pub packed : Reply → ℕ
packed y = y.number + 256 * y.buffer + 65536 * y.row + 4294967296 * y.value

-- a cause, and its refusal
pub record Check : Type 0 where
  pub cause : Bool
  pub refusal : Reply

abbrev pub check : Bool → Reply → Check
check c y = record { cause = c; refusal = y }

-- a search, which yields a row from 1 or 0 for none, and the refusal at a row
abbrev pub check_row : ℕ → (ℕ → Reply) → Check
check_row m y = record { cause = ltb 0 m; refusal = y m }

-- the refusal of the first check whose cause holds; where none does, v
unfoldable pub answer : List Check → Reply → Reply
answer [] v = v
answer (c ∷ cs) v = pick c.cause c.refusal (answer cs v)

-- check n of a list, from 0
abbrev pub cause_at : List Check → ℕ → Bool
cause_at [] n = false
cause_at (c ∷ cs) zero = c.cause
cause_at (c ∷ cs) (suc n) = cause_at cs n

abbrev pub refusal_at : List Check → ℕ → Reply
refusal_at [] n = accept 0
refusal_at (c ∷ cs) zero = c.refusal
refusal_at (c ∷ cs) (suc n) = refusal_at cs n

-- the refusals of a list, in its order
abbrev pub ladder : List Check → List Reply
ladder [] = []
ladder (c ∷ cs) = c.refusal ∷ ladder cs

-- its cause holds and no earlier one does
abbrev pub FirstFault : List Check → ℕ → Type 0
FirstFault cs n = (cause_at cs n ≡ true) × ((m : ℕ) → m < n → cause_at cs m ≡ false)

abbrev pub NoFault : List Check → Type 0
NoFault cs = (n : ℕ) → cause_at cs n ≡ false

-- The causes, by their limits.
abbrev pub bad_prime_of : (limit P : ℕ) → Bool
bad_prime_of limit P = not (is_prime_of P && leb P limit)

abbrev pub bad_size_of : (limit N : ℕ) → Bool
bad_size_of limit N = not (leb 1 N && leb N limit)

abbrev pub bad_order : (limit r s : ℕ) → Bool
bad_order limit r s = not (leb r limit && leb s limit)

abbrev pub bad_place_of : (N i : ℕ) → Bool
bad_place_of N i = not (leb 1 i && leb i N)

abbrev pub short {ℓ} : {X : Type ℓ} → List X → ℕ → Bool
short d n = ltb (length d) n

-- what a buffer that held d holds after a call that writes ys
abbrev pub after {ℓ} : {X : Type ℓ} → Reply → List X → List X → List X
after y ys d = pick (eqb y.number 0) (over ys d) d
