-- The laws of the refusal table, and what stands in a buffer after a call.
use Rattle.std.specs.Prelude.{Bool, true, false, not, ◌&&◌, ◌≢◌, ◌↔◌, ◌≡◌, refl, List, [], ◌∷◌, ◌++◌, ℕ, zero, suc, ◌+◌, ◌<◌, ◌≤◌, leb, eqb, ltb, length, drop}
use Rattle.std.proofs.Common.{sym, ap, ap₂, ◌∙◌, arith, le_of_suc-le-suc, drop_at, length-append, length-drop, eq-eqb, ne_eqb, lt-ltb}
use Rattle.std.proofs.Math.Decide.{ℕ_discrete}
use Rattle.std.proofs.lemmas.Bool.{eqb-false}
use Rattle.algebra.specs.Generators.{pick}
use Rattle.field.specs.Prime.{Prime}
use Rattle.field.specs.PrimeTest.{is_prime_of, is_prime_lem}
use Rattle.lists.specs.ListLaws.{clash}
use Rattle.table.specs.Replies.{Reply, Check, answer, Accepted, cause_at, refusal_at, FirstFault, NoFault, after, bad_prime_of}

-- equal replies have one number
pub number_is : {w r : Reply} → w ≡ r → w.number ≡ r.number
number_is = ap (λ (w : Reply). w.number)

-- A refusal is given where its cause holds and no earlier one does,
pub given : (cs : List Check) (v : Reply) (n : ℕ) → FirstFault cs n → answer cs v ≡ refusal_at cs n
unfolding answer
given [] v n z = clash (sym z.0)
given (c ∷ cs) v zero z = rw z.0
given (c ∷ cs) v (suc n) z = rw (z.1 0 (omega arith)) (given cs v n (z.0, λ m h. z.1 (suc m) (omega arith)))

pub open_checks : (cs : List Check) (v : Reply) → NoFault cs → answer cs v ≡ v
unfolding answer
open_checks [] v z = refl
open_checks (c ∷ cs) v z = rw (z 0) (open_checks cs v (λ n. z (suc n)))

-- and nowhere else.
pub refused_by : (cs : List Check) (v : Reply) → Accepted v → (answer cs v).number ≢ 0 → (n : ℕ) × FirstFault cs n
unfolding answer
refused_by [] v ok e = absurd (e ok)
refused_by (c ∷ cs) v ok e = go c.cause refl e (λ e. refused_by cs v ok e)
  where
    go : (b : Bool) → c.cause ≡ b → (pick b c.refusal (answer cs v)).number ≢ 0 → ((answer cs v).number ≢ 0 → (n : ℕ) × FirstFault cs n)
        → (n : ℕ) × FirstFault (c ∷ cs) n
    go true q e ih = (0, (q, λ m h. absurd (omega arith)))
    go false q e ih = let z = ih e in (suc z.0, (z.1.0, before z.0 z.1.1))
      where
        before : (n : ℕ) → ((m : ℕ) → m < n → cause_at cs m ≡ false) → (m : ℕ) → m < suc n → cause_at (c ∷ cs) m ≡ false
        before n h zero l = q
        before n h (suc m) l = h m (le_of_suc-le-suc l)

-- no refusal of a list has the number m, which computes for each call's list
abbrev pub lacks : ℕ → List Check → Bool
lacks m [] = true
lacks m (c ∷ cs) = not (eqb c.refusal.number m) && lacks m cs

pub other_number : (m : ℕ) (cs : List Check) (v : Reply) → lacks m cs ≡ true → v.number ≢ m → (answer cs v).number ≢ m
unfolding answer
other_number m [] v r h = h
other_number m (c ∷ cs) v r h = go c.cause (eqb c.refusal.number m) refl r (λ r. other_number m cs v r h)
  where
    go : (b z : Bool) → eqb c.refusal.number m ≡ z → (not z && lacks m cs) ≡ true → (lacks m cs ≡ true → (answer cs v).number ≢ m)
        → (pick b c.refusal (answer cs v)).number ≢ m
    go b true w r ih = clash (sym r)
    go true false w r ih = eqb-false c.refusal.number m w
    go false false w r ih = ih r

-- an answer with a number that no refusal of a list has was not given by the list
pub none_gave : (m : ℕ) (cs : List Check) (v : Reply) → lacks m cs ≡ true → (answer cs v).number ≡ m → NoFault cs
unfolding answer
none_gave m [] v r e n = refl
none_gave m (c ∷ cs) v r e n = go c.cause (eqb c.refusal.number m) refl refl r e (λ r e n. none_gave m cs v r e n) n
  where
    go : (b z : Bool) → c.cause ≡ b → eqb c.refusal.number m ≡ z → (not z && lacks m cs) ≡ true → (pick b c.refusal (answer cs v)).number ≡ m
        → (lacks m cs ≡ true → (answer cs v).number ≡ m → (n : ℕ) → cause_at cs n ≡ false) → (n : ℕ) → cause_at (c ∷ cs) n ≡ false
    go b true q w r e ih n = clash (sym r)
    go true false q w r e ih n = clash (sym (eq-eqb c.refusal.number m e) ∙ w)
    go false false q w r e ih zero = q
    go false false q w r e ih (suc n) = ih r e n

-- the refusals of a list are refusals
abbrev pub refusing : List Check → Bool
refusing = lacks 0

pub passed : (cs : List Check) (v : Reply) → refusing cs ≡ true → Accepted (answer cs v) → NoFault cs
passed = none_gave 0

-- the reply then is v
pub value_is : (cs : List Check) (v : Reply) → refusing cs ≡ true → Accepted (answer cs v) → answer cs v ≡ v
value_is cs v r ok = open_checks cs v (passed cs v r ok)

-- no cause of a list holds, check by check
abbrev pub AllClear : List Check → Type 0
AllClear [] = Unit {0}
AllClear (c ∷ cs) = (c.cause ≡ false) × AllClear cs

pub all_clear : (cs : List Check) → AllClear cs → NoFault cs
all_clear [] z n = refl
all_clear (c ∷ cs) z zero = z.0
all_clear (c ∷ cs) z (suc n) = all_clear cs z.1 n

-- a call accepts exactly where G holds, if that is where no cause does
pub accepts_where : (cs : List Check) (v : Reply) {G : Type 0} → refusing cs ≡ true → Accepted v → (NoFault cs → G) → (G → AllClear cs)
    → Accepted (answer cs v) ↔ G
accepts_where cs v r ok there back = (λ e. there (passed cs v r e), λ g. ap (λ (y : Reply). y.number) (open_checks cs v (all_clear cs (back g))) ∙ ok)

pub answer_append : (cs ds : List Check) (v : Reply) → answer (cs ++ ds) v ≡ answer cs (answer ds v)
unfolding answer
answer_append [] ds v = refl
answer_append (c ∷ cs) ds v = ap (pick c.cause c.refusal) (answer_append cs ds v)

-- a search that finds none
pub no_row : (m : ℕ) → ltb 0 m ≡ false → m ≡ 0
no_row zero e = refl
no_row (suc m) e = clash (sym (lt-ltb 0 (suc m) (omega arith)) ∙ e)

pub none_row : (m : ℕ) → (ltb 0 m ≡ false) ↔ (m ≡ 0)
none_row m = (no_row m, ap (ltb 0))

pub both_hold : (a b : Bool) → not (a && b) ≡ false → (a ≡ true) × (b ≡ true)
both_hold true true e = (refl, refl)
both_hold true false e = clash e
both_hold false b e = clash e

pub good_prime : (limit P : ℕ) → bad_prime_of limit P ≡ false → Prime P
good_prime limit P e = is_prime_lem P (both_hold (is_prime_of P) (leb P limit) e).0

-- the buffers
pub kept {ℓ} : {X : Type ℓ} (y : Reply) (ys d : List X) → y.number ≢ 0 → after y ys d ≡ d
kept y ys d n = rw (ne_eqb y.number 0 n)

pub after_is {ℓ} : {X : Type ℓ} (y : Reply) (ys d : List X) → Accepted y → after y ys d ≡ ys ++ drop (length ys) d
after_is y ys d e = rw (eq-eqb y.number 0 e)

pub surplus {ℓ} : {X : Type ℓ} (y : Reply) (n : ℕ) (ys d : List X) → (Accepted y → length ys ≡ n) → drop n (after y ys d) ≡ drop n d
surplus y n ys d h = go (ℕ_discrete y.number 0)
  where
    go : Dec (y.number ≡ 0) → drop n (after y ys d) ≡ drop n d
    go (yes e) = ap (drop n) (after_is y ys d e) ∙ drop_at ys (drop (length ys) d) n (h e) ∙ ap (λ (m : ℕ). drop m d) (h e)
    go (no e) = ap (drop n) (kept y ys d e)

pub after_length {ℓ} : {X : Type ℓ} (y : Reply) (ys d : List X) → (Accepted y → length ys ≤ length d) → length (after y ys d) ≡ length d
after_length y ys d h = go (eqb y.number 0) refl
  where
    go : (b : Bool) → eqb y.number 0 ≡ b → length (pick b (ys ++ drop (length ys) d) d) ≡ length d
    go true e = let l = h (eqb_zero y.number e) in length-append ys (drop (length ys) d) ∙ rw (length-drop (length ys) d) (omega arith)
      where
        eqb_zero : (n : ℕ) → eqb n 0 ≡ true → n ≡ 0
        eqb_zero zero q = refl
        eqb_zero (suc n) q = clash (sym q ∙ ne_eqb (suc n) 0 (λ z. omega arith))
    go false e = refl

-- after a refusal the buffer is as it was; after an accepted call the n words ys stand at its start
pub refused_leaves : (y : Reply) (ys d : List ℕ) → y.number ≢ 0 → d ≡ after y ys d
refused_leaves y ys d n = sym (kept y ys d n)

pub accepted_leaves : (y : Reply) (ys d out : List ℕ) (n : ℕ) → Accepted y → length ys ≡ n → out ≡ ys ++ drop n d → out ≡ after y ys d
accepted_leaves y ys d out n ok l e = e ∙ sym (rw (eq-eqb y.number 0 ok, l))

-- a buffer keeps its length when n words are written at its start
pub written_length : (ys d out : List ℕ) (n : ℕ) → length ys ≡ n → n ≤ length d → out ≡ ys ++ drop n d → length out ≡ length d
written_length ys d out n l h e = ap length e ∙ length-append ys (drop n d) ∙ ap₂ ◌+◌ l (length-drop n d) ∙ omega arith
