-- What the causes mean, what each call accepts, and the order of its checks.
use Rattle.std.specs.Prelude.{Bool, true, false, not, ◌&&◌, ◌||◌, ◌↔◌, ◌≡◌, List, [], ◌∷◌, ℕ, ◌*◌, ◌<◌, ◌≤◌, leb, ltb, eqb, length, get_or}
use Rattle.std.proofs.Math.Logic.Iff
use Rattle.std.proofs.Math.Path.{refl}
use borrow.Author.Tests.{leb-true, le-leb, leb-false, lt-leb, ltb-false, le-ltb, eqb-true, eq-eqb}
use Rattle.algebra.specs.Kinds.{Kind}
use Rattle.field.specs.Prime.{Prime}
use Rattle.field.specs.PrimeTest.{is_prime_of, is_prime_lem, prime_is}
use Rattle.table.specs.Limits.{standard}
use Rattle.lists.specs.ListLaws.{clash, or_false}
use Rattle.table.specs.Words.{Table, Used, WordsBelow, first_bad_of, first_bad_place_of}
use Rattle.table.proofs.WordLaws.{words_below, place_below, place_good}
use Rattle.table.specs.RowFile.{head_p, head_n, head_r, head_s, file_bytes, file_row_word, ChainWrong, first_broken_of, first_bad_in_file}
use Rattle.table.proofs.RowFileLaws.{chain_none, file_words_below}
use Rattle.table.specs.Results.{first_zero_of}
use Rattle.table.specs.Replies.{Accepted, accept, answer, bad_prime_of, bad_size_of, bad_order, bad_place_of, short}
use Rattle.table.specs.Calls.{table_length, check_short, check_words_of, size_checks, entry_checks, apply_checks, multiple_checks, pair_checks, solve_checks}
use Rattle.table.specs.Calls.{inverse_checks, read_checks, entry_reply, matrix_reply, apply_reply, transpose_reply, multiple_reply, sum_reply, product_reply}
use Rattle.table.specs.Calls.{solve_reply, inverse_reply, write_reply, read_reply}
use Rattle.table.proofs.CallLaws.{both_hold, none_row, accepts_where}
use Rattle.table.proofs.SingularRow.{regular_none, none_regular}
use Rattle.table.specs.Undertakings.{Causes, Accepts, Order, GoodNumbers, GoodOrders, GoodTable, GoodPair, GoodFile, NoneSingular}

bools : (a b : Bool) → (not (a && b) ≡ false) ↔ ((a ≡ true) × (b ≡ true))
bools a b = (both_hold a b, back a b)
  where
    back : (a b : Bool) → (a ≡ true) × (b ≡ true) → not (a && b) ≡ false
    back a b z = rw (z.0, z.1)

pub causes : Causes
causes = record {
  prime = λ l P. (
    λ e. let z = both_hold (is_prime_of P) (leb P l) e in (is_prime_lem P z.0, leb-true P l z.1),
    λ z. (bools (is_prime_of P) (leb P l)).1 (prime_is P z.0, le-leb P l z.1),
  );
  size = λ l N. (
    λ e. let z = both_hold (leb 1 N) (leb N l) e in (leb-true 1 N z.0, leb-true N l z.1),
    λ z. (bools (leb 1 N) (leb N l)).1 (le-leb 1 N z.0, le-leb N l z.1),
  );
  order = λ l r s. (
    λ e. let z = both_hold (leb r l) (leb s l) e in (leb-true r l z.0, leb-true s l z.1),
    λ z. (bools (leb r l) (leb s l)).1 (le-leb r l z.0, le-leb s l z.1),
  );
  place = λ N i. (
    λ e. let z = both_hold (leb 1 i) (leb i N) e in (leb-true 1 i z.0, leb-true i N z.1),
    λ z. (bools (leb 1 i) (leb i N)).1 (le-leb 1 i z.0, le-leb i N z.1),
  );
  short = λ d n. (λ e. ltb-false (length d) n e, λ z. le-ltb (length d) n z);
}

-- The checks of the calls: each is clear exactly where what it asks for is there.
pub numbers : (P N : ℕ) → bad_prime_of standard.prime P ≡ false → bad_size_of standard.size N ≡ false → GoodNumbers P N
numbers P N p n = let a = (causes.prime standard.prime P).0 p in let b = (causes.size standard.size N).0 n in (a.0, a.1, b.0, b.1)

pub prime_clear : (P N : ℕ) → GoodNumbers P N → bad_prime_of standard.prime P ≡ false
prime_clear P N g = (causes.prime standard.prime P).1 (g.0, g.1)

pub size_clear : (P N : ℕ) → GoodNumbers P N → bad_size_of standard.size N ≡ false
size_clear P N g = (causes.size standard.size N).1 (g.2, g.3)

pub orders : (r s : ℕ) → (bad_order standard.order r s ≡ false) ↔ GoodOrders r s
orders = causes.order standard.order

module _ (P N : ℕ) where
  pub words : (A : Table) → (ltb 0 (first_bad_of P N A) ≡ false) ↔ WordsBelow P N A
  words A = Iff.trans (none_row (first_bad_of P N A)) (words_below P N A)

  pub places : (x : List ℕ) → (ltb 0 (first_bad_place_of P N x) ≡ false) ↔ ((k : ℕ) → k < N → get_or x k 0 < P)
  places x = Iff.trans (none_row (first_bad_place_of P N x)) (place_below P N x, place_good P N x)

  pub corners : (A : Table) → Prime P → (ltb 0 (first_zero_of P N A) ≡ false) ↔ NoneSingular P N A
  corners A prime = Iff.trans (none_row (first_zero_of P N A)) (regular_none P N A prime, none_regular P N A prime)

  -- a table by its three checks
  pub good : (A : Table) → bad_order standard.order A.lower A.upper ≡ false → short A.words (table_length N A) ≡ false
      → ltb 0 (first_bad_of P N A) ≡ false → GoodTable P N A
  good A o l w = ((orders A.lower A.upper).0 o, ltb-false _ _ l, (words A).0 w)

  pub orders_clear : (A : Table) → GoodTable P N A → bad_order standard.order A.lower A.upper ≡ false
  orders_clear A g = (orders A.lower A.upper).1 g.0

  pub two_places : (i j : ℕ) → ((bad_place_of N i || bad_place_of N j) ≡ false) ↔ ((1 ≤ i) × (i ≤ N) × (1 ≤ j) × (j ≤ N))
  two_places i j = (there, λ g. rw ((causes.place N i).1 (g.0, g.1), (causes.place N j).1 (g.2, g.3)))
    where
      there : (bad_place_of N i || bad_place_of N j) ≡ false → (1 ≤ i) × (i ≤ N) × (1 ≤ j) × (j ≤ N)
      there e = let p = or_false (bad_place_of N i) (bad_place_of N j) e in let a = (causes.place N i).0 p.0 in let b = (causes.place N j).0 p.1 in
          (a.0, a.1, b.0, b.1)

-- a file's length, chain and words
equal : (a b : ℕ) → (not (eqb a b) ≡ false) ↔ (a ≡ b)
equal a b = (there (eqb a b) refl, λ e. rw (eq-eqb a b e))
  where
    there : (x : Bool) → eqb a b ≡ x → not x ≡ false → a ≡ b
    there true q e = eqb-true a b q
    there false q e = clash e

chain : (f : List ℕ) → (ltb 0 (first_broken_of f) ≡ false) ↔ ((k : ℕ) → ChainWrong f k → ⊥)
chain f = Iff.trans (none_row (first_broken_of f)) (chain_none f)

file_words_lem : (f : List ℕ) → (ltb 0 (first_bad_in_file f) ≡ false) ↔ ((k : ℕ) (κ : Kind) (i j : ℕ) → Used (head_n f) (head_r f) (head_s f) k κ i j
    → file_row_word f k κ i j < head_p f)
file_words_lem f = Iff.trans (none_row (first_bad_in_file f)) (file_words_below f)

pub read_accepts : (f d : List ℕ) → Accepted (read_reply f d) ↔ GoodFile f d
unfolding read_reply
read_accepts f d = accepts_where (read_checks f d) (accept (head_p f)) refl refl
    (λ z. (
      ltb-false _ _ (z 0),
      numbers (head_p f) (head_n f) (z 1) (z 2),
      (orders _ _).0 (z 3),
      (equal _ _).0 (z 4),
      ltb-false _ _ (z 5),
      (chain f).0 (z 6),
      (file_words_lem f).0 (z 7),
    ))
    (λ g. (
      le-ltb _ _ g.0,
      (
        prime_clear (head_p f) (head_n f) g.1,
        (
          size_clear (head_p f) (head_n f) g.1,
          ((orders _ _).1 g.2, ((equal _ _).1 g.3, (le-ltb _ _ g.4, ((chain f).1 g.5, ((file_words_lem f).1 g.6, tt))))),
        ),
      ),
    ))

module _ (P N : ℕ) (A : Table) where
  -- matrix, transpose and write: a table, and n words of buffer b for the result
  pub table_accepts : (b n : ℕ) (d : List ℕ)
      → Accepted (answer (size_checks P N standard A (check_short 1 A.words (table_length N A) ∷ check_short b d n ∷ check_words_of P N 1 A ∷ [])) (accept 0))
      ↔ (GoodNumbers P N × GoodTable P N A × (n ≤ length d))
  table_accepts b n d = accepts_where _ (accept 0) refl refl
      (λ z. (numbers P N (z 0) (z 1), good P N A (z 2) (z 3) (z 5), ltb-false _ _ (z 4)))
      (λ g. (
        prime_clear P N g.0,
        (size_clear P N g.0, (orders_clear P N A g.1, (le-ltb _ _ g.1.1, (le-ltb _ _ g.2, ((words P N A).1 g.1.2, tt))))),
      ))

  -- sum and product
  pub pair_accepts : (B : Table) (d : List ℕ) → Accepted (answer (pair_checks P N A B d) (accept 0)) ↔ GoodPair P N A B d
  pair_accepts B d = accepts_where (pair_checks P N A B d) (accept 0) refl refl
      (λ z. (numbers P N (z 0) (z 1), good P N A (z 2) (z 5) (z 8), good P N B (z 3) (z 6) (z 9), (orders _ _).0 (z 4), ltb-false _ _ (z 7)))
      (λ g. (
        prime_clear P N g.0,
        (
          size_clear P N g.0,
          (
            orders_clear P N A g.1,
            (
              orders_clear P N B g.2,
              (
                (orders _ _).1 g.3,
                (le-ltb _ _ g.1.1, (le-ltb _ _ g.2.1, (le-ltb _ _ g.4, ((words P N A).1 g.1.2, ((words P N B).1 g.2.2, tt))))),
              ),
            ),
          ),
        ),
      ))

  pub accepts : Accepts P N A
  unfolding entry_reply matrix_reply apply_reply transpose_reply multiple_reply sum_reply product_reply solve_reply inverse_reply write_reply
  accepts = record {
    entry = λ i j. accepts_where (entry_checks P N A i j) _ refl refl
        (λ z. let p = (two_places P N i j).0 (z 3) in (numbers P N (z 0) (z 1), good P N A (z 2) (z 4) (z 5), p.0, p.1, p.2, p.3))
        (λ g. (
          prime_clear P N g.0,
          (
            size_clear P N g.0,
            (orders_clear P N A g.1, ((two_places P N i j).1 (g.2, g.3, g.4, g.5), (le-ltb _ _ g.1.1, ((words P N A).1 g.1.2, tt)))),
          ),
        ));
    matrix = λ d. table_accepts 5 (N * N) d;
    apply = λ x d. accepts_where (apply_checks P N A x d) (accept 0) refl refl
        (λ z. (numbers P N (z 0) (z 1), good P N A (z 2) (z 3) (z 6), (ltb-false _ _ (z 4), (places P N x).0 (z 7)), ltb-false _ _ (z 5)))
        (λ g. (
          prime_clear P N g.0,
          (
            size_clear P N g.0,
            (
              orders_clear P N A g.1,
              (le-ltb _ _ g.1.1, (le-ltb _ _ g.2.0, (le-ltb _ _ g.3, ((words P N A).1 g.1.2, ((places P N x).1 g.2.1, tt))))),
            ),
          ),
        ));
    transpose = λ d. table_accepts 5 (table_length N A) d;
    multiple = λ c d. accepts_where (multiple_checks P N A c d) (accept 0) refl refl
        (λ z. (numbers P N (z 0) (z 1), good P N A (z 2) (z 3) (z 6), leb-false P c (z 5), ltb-false _ _ (z 4)))
        (λ g. (
          prime_clear P N g.0,
          (
            size_clear P N g.0,
            (orders_clear P N A g.1, (le-ltb _ _ g.1.1, (le-ltb _ _ g.3, (lt-leb P c g.2, ((words P N A).1 g.1.2, tt))))),
          ),
        ));
    sum = pair_accepts;
    product = pair_accepts;
    solve = λ x v d. accepts_where (solve_checks P N A x v d) (accept 0) refl refl
        (λ z. let n = numbers P N (z 0) (z 1) in (
          n,
          good P N A (z 2) (z 3) (z 7),
          (ltb-false _ _ (z 4), (places P N x).0 (z 8)),
          ltb-false _ _ (z 5),
          ltb-false _ _ (z 6),
          (corners P N A n.0).0 (z 9),
        ))
        (λ g. (
          prime_clear P N g.0,
          (
            size_clear P N g.0,
            (
              orders_clear P N A g.1,
              (
                le-ltb _ _ g.1.1,
                (
                  le-ltb _ _ g.2.0,
                  (le-ltb _ _ g.3, (le-ltb _ _ g.4, ((words P N A).1 g.1.2, ((places P N x).1 g.2.1, ((corners P N A g.0.0).1 g.5, tt))))),
                ),
              ),
            ),
          ),
        ));
    inverse = λ d. accepts_where (inverse_checks P N A d) (accept 0) refl refl
        (λ z. let n = numbers P N (z 0) (z 1) in (n, good P N A (z 2) (z 3) (z 5), ltb-false _ _ (z 4), (corners P N A n.0).0 (z 6)))
        (λ g. (
          prime_clear P N g.0,
          (
            size_clear P N g.0,
            (orders_clear P N A g.1, (le-ltb _ _ g.1.1, (le-ltb _ _ g.2, ((words P N A).1 g.1.2, ((corners P N A g.0.0).1 g.3, tt))))),
          ),
        ));
    write = λ f. table_accepts 6 (file_bytes N A.lower A.upper) f;
    read = read_accepts;
  }

  pub order : Order P N A
  order = record {
    entry = λ i j. refl;
    matrix = λ d. refl;
    apply = λ x d. refl;
    transpose = λ d. refl;
    multiple = λ c d. refl;
    pair = λ B d. refl;
    solve = λ x v d. refl;
    inverse = λ d. refl;
    write = λ f. refl;
    read = λ f d. refl;
  }
