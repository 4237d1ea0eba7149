-- The identities of M-111 on small tables, computed: where they hold, that each of their conditions is needed, and that similar identities are false.
use Rattle.std.specs.Prelude.{List, [], ◌∷◌, ◌≡◌, refl, ℕ}
use Rattle.algebra.specs.Sums.{fold, join}
use Rattle.algebra.specs.Generators.{entry_of, below, above, products_g, x_states, y_states, inverses_g, pivots, fs, vs, ys, zs, solved_g, ahead, behind}
use Rattle.field.specs.PrimeTest.{is_prime_of, divided}
use Rattle.field.specs.Residue.{residues, res, val, of, add, mul, neg, inv, inverse_of, inverse_by, res_dec}
use Rattle.lists.specs.Lists.{some, first_of}
use Rattle.table.specs.Words.{Table, table, row_gens, gens, matrix_of, row_words_of, table_words, bad_row_of, first_bad_of, first_bad_place_of}
use Rattle.table.specs.Results.{matrix_w, transpose_w, inverse_w, pivot_w, first_zero_of, solve_w, product_w}
use Rattle.table.specs.Replies.{answer}
use Rattle.table.specs.Calls.{transpose_reply, solve_reply, inverse_reply, product_reply, solve_after, transpose_t, inverse_t, product_t}
use Rattle.table_examples.specs.Examples.{numbers_of, lent}

-- the table of orders 1 and 1, modulo 7, of the matrix with rows t u and v w
abbrev rows : (t u v w : ℕ) → Table
rows t u v w = table 1 1 (t ∷ 0 ∷ 0 ∷ v ∷ u ∷ 0 ∷ 0 ∷ w ∷ 1 ∷ 0 ∷ 0 ∷ 0 ∷ 0 ∷ 1 ∷ [])

-- Regular ones, the last with orders 1 and 0 and 9 in its idle words; then one whose first pivot is zero, and one whose second is; and the identity.
abbrev E : Table
E = rows 1 1 1 0

abbrev F : Table
F = rows 1 2 0 3

abbrev G : Table
G = rows 1 1 6 0

abbrev D : Table
D = table 1 0 (1 ∷ 9 ∷ 9 ∷ 2 ∷ 3 ∷ 4 ∷ 9 ∷ 9 ∷ [])

abbrev X : Table
X = rows 0 1 1 0

abbrev S : Table
S = rows 1 1 1 1

abbrev I : Table
I = rows 1 0 0 1

-- lent results for a table of orders 1 and 1, and for the product of two such
abbrev room : List ℕ
room = lent 14

abbrev room2 : List ℕ
room2 = lent 34

-- In a row stand the numbers that the calls reply, 0 for accepted,
abbrev multiplied : Table → Table → List ℕ → ℕ
multiplied A B d = (product_reply 7 2 A B d).number

abbrev inverted : Table → List ℕ → ℕ
inverted A d = (inverse_reply 7 2 A d).number

abbrev transposed : Table → List ℕ → ℕ
transposed A d = (transpose_reply 7 2 A d).number

abbrev solved : Table → (x v d : List ℕ) → ℕ
solved A x v d = (solve_reply 7 2 A x v d).number

-- and then the matrices of both sides.
abbrev sides : List ℕ → Table → Table → List (List ℕ)
sides replies A B = replies ∷ matrix_w 7 2 A ∷ matrix_w 7 2 B ∷ []

-- the inverses of A B, A and B, B's inverse times A's
abbrev inverse_of_product : (A B : Table) (e f g : List ℕ) → List (List ℕ)
inverse_of_product A B e f g =
    let AB = product_t 7 2 A B room2 in
    let A⁻¹ = inverse_t 7 2 A e in
    let B⁻¹ = inverse_t 7 2 B f in
    sides (inverted AB room2 ∷ inverted A e ∷ inverted B f ∷ multiplied B⁻¹ A⁻¹ g ∷ [])
    (inverse_t 7 2 AB room2) (product_t 7 2 B⁻¹ A⁻¹ g)

-- the inverse, and its inverse
abbrev inverse_of_inverse : (A : Table) (d : List ℕ) → List (List ℕ)
inverse_of_inverse A d =
    let A⁻¹ = inverse_t 7 2 A d in
    sides (inverted A d ∷ inverted A⁻¹ room ∷ []) (inverse_t 7 2 A⁻¹ room) A

-- A B, the transposes of A B, A and B, B's transpose times A's
abbrev transpose_of_product : (A B : Table) (c d e f g : List ℕ) → List (List ℕ)
transpose_of_product A B c d e f g =
    let AB = product_t 7 2 A B c in
    let Aᵀ = transpose_t 7 2 A e in
    let Bᵀ = transpose_t 7 2 B f in
    sides (multiplied A B c ∷ transposed AB d ∷ transposed A e ∷ transposed B f ∷ multiplied Bᵀ Aᵀ g ∷ [])
    (transpose_t 7 2 AB d) (product_t 7 2 Bᵀ Aᵀ g)

-- the transpose; then both rows of first zero pivots
abbrev transpose_first_zero : (A : Table) (d : List ℕ) → List (List ℕ)
transpose_first_zero A d = (transposed A d ∷ []) ∷ (first_zero_of 7 2 (transpose_t 7 2 A d) ∷ first_zero_of 7 2 A ∷ []) ∷ []

-- whole replies for the transpose and the table: of solve, with the columns x' and x, and of inverse, with the results e' and e
abbrev transpose_replies : (A : Table) (x' x e' e : List ℕ) → List (List ℕ)
transpose_replies A x' x e' e =
    let Aᵀ = transpose_t 7 2 A room in
    numbers_of (solve_reply 7 2 Aᵀ x' (lent 2) (lent 2)) ∷ numbers_of (solve_reply 7 2 A x (lent 2) (lent 2))
    ∷ numbers_of (inverse_reply 7 2 Aᵀ e') ∷ numbers_of (inverse_reply 7 2 A e) ∷ []

abbrev x12 : List ℕ
x12 = 1 ∷ 2 ∷ []

-- solving for (1, 2) with A B, with A, and with B for what that leaves in d; then both columns
abbrev solve_through : (A B : Table) (d : List ℕ) → List (List ℕ)
solve_through A B d =
    let AB = product_t 7 2 A B room2 in
    let y = solve_after 7 2 A x12 (lent 2) d in
    (solved AB x12 (lent 4) (lent 2) ∷ solved A x12 (lent 2) d ∷ solved B y (lent 2) (lent 2) ∷ [])
    ∷ solve_after 7 2 AB x12 (lent 4) (lent 2) ∷ solve_after 7 2 B y (lent 2) (lent 2) ∷ []

-- The same with the factors not reversed, and with the solves in the other order.
abbrev inverses_not_reversed : (A B : Table) → List (List ℕ)
inverses_not_reversed A B =
    let AB = product_t 7 2 A B room2 in
    let A⁻¹ = inverse_t 7 2 A room in
    let B⁻¹ = inverse_t 7 2 B room in
    sides (inverted AB room2 ∷ inverted A room ∷ inverted B room ∷ multiplied A⁻¹ B⁻¹ room2 ∷ [])
    (inverse_t 7 2 AB room2) (product_t 7 2 A⁻¹ B⁻¹ room2)

abbrev transposes_not_reversed : (A B : Table) → List (List ℕ)
transposes_not_reversed A B =
    let AB = product_t 7 2 A B room2 in
    let Aᵀ = transpose_t 7 2 A room in
    let Bᵀ = transpose_t 7 2 B room in
    sides (multiplied A B room2 ∷ transposed AB room2 ∷ transposed A room ∷ transposed B room ∷ multiplied Aᵀ Bᵀ room2 ∷ [])
    (transpose_t 7 2 AB room2) (product_t 7 2 Aᵀ Bᵀ room2)

abbrev solve_other_way : (A B : Table) → List (List ℕ)
solve_other_way A B =
    let AB = product_t 7 2 A B room2 in
    let y = solve_after 7 2 B x12 (lent 2) (lent 2) in
    (solved AB x12 (lent 4) (lent 2) ∷ solved B x12 (lent 2) (lent 2) ∷ solved A y (lent 2) (lent 2) ∷ [])
    ∷ solve_after 7 2 AB x12 (lent 4) (lent 2) ∷ solve_after 7 2 A y (lent 2) (lent 2) ∷ []

computed :
    -- The inverse of a product: it holds;
    (inverse_of_product E F room room room2 ≡ ((0 ∷ 0 ∷ 0 ∷ 0 ∷ []) ∷ (4 ∷ 4 ∷ 5 ∷ 2 ∷ []) ∷ (4 ∷ 4 ∷ 5 ∷ 2 ∷ []) ∷ []))
    -- without the inverse of A B, of A, of B, and without room, it does not
    × (inverse_of_product E G room room room2 ≡ ((7 ∷ 0 ∷ 0 ∷ 0 ∷ []) ∷ (4 ∷ 4 ∷ 4 ∷ 4 ∷ []) ∷ (6 ∷ 1 ∷ 1 ∷ 0 ∷ []) ∷ []))
    × (inverse_of_product X E I.words room room2 ≡ ((0 ∷ 7 ∷ 0 ∷ 0 ∷ []) ∷ (1 ∷ 0 ∷ 6 ∷ 1 ∷ []) ∷ (0 ∷ 1 ∷ 1 ∷ 6 ∷ []) ∷ []))
    × (inverse_of_product E X room I.words room2 ≡ ((0 ∷ 0 ∷ 7 ∷ 0 ∷ []) ∷ (1 ∷ 6 ∷ 0 ∷ 1 ∷ []) ∷ (0 ∷ 1 ∷ 1 ∷ 6 ∷ []) ∷ []))
    × (inverse_of_product E F room room [] ≡ ((0 ∷ 0 ∷ 0 ∷ 4 ∷ []) ∷ (4 ∷ 4 ∷ 5 ∷ 2 ∷ []) ∷ (0 ∷ 0 ∷ 0 ∷ 0 ∷ []) ∷ []))
    -- The inverse of an inverse: it holds; without the first; without the second, which is example 5 of the scope paper
    × (inverse_of_inverse F room ≡ ((0 ∷ 0 ∷ []) ∷ (1 ∷ 2 ∷ 0 ∷ 3 ∷ []) ∷ (1 ∷ 2 ∷ 0 ∷ 3 ∷ []) ∷ []))
    × (inverse_of_inverse X I.words ≡ ((7 ∷ 0 ∷ []) ∷ (1 ∷ 0 ∷ 0 ∷ 1 ∷ []) ∷ (0 ∷ 1 ∷ 1 ∷ 0 ∷ []) ∷ []))
    × (inverse_of_inverse E room ≡ ((0 ∷ 7 ∷ []) ∷ (4 ∷ 2 ∷ 2 ∷ 4 ∷ []) ∷ (1 ∷ 1 ∷ 1 ∷ 0 ∷ []) ∷ []))
    -- The transpose of a product: it holds, also with other orders; without the product, and without room in each of the four results
    × (transpose_of_product E F room2 room2 room room room2 ≡ ((0 ∷ 0 ∷ 0 ∷ 0 ∷ 0 ∷ []) ∷ (1 ∷ 1 ∷ 5 ∷ 2 ∷ []) ∷ (1 ∷ 1 ∷ 5 ∷ 2 ∷ []) ∷ []))
    × (transpose_of_product D E (lent 24) (lent 24) (lent 8) room (lent 24) ≡ ((0 ∷ 0 ∷ 0 ∷ 0 ∷ 0 ∷ []) ∷ (1 ∷ 4 ∷ 1 ∷ 1 ∷ []) ∷ (1 ∷ 4 ∷ 1 ∷ 1 ∷ []) ∷ []))
    × (transpose_of_product E F [] room2 room room room2 ≡ ((4 ∷ 4 ∷ 0 ∷ 0 ∷ 0 ∷ []) ∷ (4 ∷ 4 ∷ 4 ∷ 4 ∷ []) ∷ (1 ∷ 1 ∷ 5 ∷ 2 ∷ []) ∷ []))
    × (transpose_of_product E F room2 [] room room room2 ≡ ((0 ∷ 4 ∷ 0 ∷ 0 ∷ 0 ∷ []) ∷ (0 ∷ 0 ∷ 0 ∷ 0 ∷ []) ∷ (1 ∷ 1 ∷ 5 ∷ 2 ∷ []) ∷ []))
    × (transpose_of_product E F room2 room2 [] room room2 ≡ ((0 ∷ 0 ∷ 4 ∷ 0 ∷ 4 ∷ []) ∷ (1 ∷ 1 ∷ 5 ∷ 2 ∷ []) ∷ (4 ∷ 4 ∷ 4 ∷ 4 ∷ []) ∷ []))
    × (transpose_of_product E F room2 room2 room [] room2 ≡ ((0 ∷ 0 ∷ 0 ∷ 4 ∷ 4 ∷ []) ∷ (1 ∷ 1 ∷ 5 ∷ 2 ∷ []) ∷ (4 ∷ 4 ∷ 4 ∷ 4 ∷ []) ∷ []))
    × (transpose_of_product E F room2 room2 room room [] ≡ ((0 ∷ 0 ∷ 0 ∷ 0 ∷ 4 ∷ []) ∷ (1 ∷ 1 ∷ 5 ∷ 2 ∷ []) ∷ (0 ∷ 0 ∷ 0 ∷ 0 ∷ []) ∷ []))
    -- First zero pivots: regular, at row 1, at row 2; without the transpose, of a regular table and of one that is not
    × (transpose_first_zero E room ≡ ((0 ∷ []) ∷ (0 ∷ 0 ∷ []) ∷ []))
    × (transpose_first_zero X room ≡ ((0 ∷ []) ∷ (1 ∷ 1 ∷ []) ∷ []))
    × (transpose_first_zero S room ≡ ((0 ∷ []) ∷ (2 ∷ 2 ∷ []) ∷ []))
    × (transpose_first_zero E [] ≡ ((4 ∷ []) ∷ (1 ∷ 0 ∷ []) ∷ []))
    × (transpose_first_zero S [] ≡ ((4 ∷ []) ∷ (1 ∷ 2 ∷ []) ∷ []))
    -- Whole replies: regular, at row 2; with an earlier fault for the transpose alone, and for the table alone
    × (transpose_replies E x12 x12 room room ≡ ((0 ∷ 0 ∷ 0 ∷ 0 ∷ []) ∷ (0 ∷ 0 ∷ 0 ∷ 0 ∷ []) ∷ (0 ∷ 0 ∷ 0 ∷ 0 ∷ []) ∷ (0 ∷ 0 ∷ 0 ∷ 0 ∷ []) ∷ []))
    × (transpose_replies S x12 x12 room room ≡ ((7 ∷ 1 ∷ 2 ∷ 0 ∷ []) ∷ (7 ∷ 1 ∷ 2 ∷ 0 ∷ []) ∷ (7 ∷ 1 ∷ 2 ∷ 0 ∷ []) ∷ (7 ∷ 1 ∷ 2 ∷ 0 ∷ []) ∷ []))
    × (transpose_replies S [] x12 [] room ≡ ((4 ∷ 3 ∷ 0 ∷ 0 ∷ []) ∷ (7 ∷ 1 ∷ 2 ∷ 0 ∷ []) ∷ (4 ∷ 5 ∷ 0 ∷ 0 ∷ []) ∷ (7 ∷ 1 ∷ 2 ∷ 0 ∷ []) ∷ []))
    × (transpose_replies S x12 [] room [] ≡ ((7 ∷ 1 ∷ 2 ∷ 0 ∷ []) ∷ (4 ∷ 3 ∷ 0 ∷ 0 ∷ []) ∷ (7 ∷ 1 ∷ 2 ∷ 0 ∷ []) ∷ (4 ∷ 5 ∷ 0 ∷ 0 ∷ []) ∷ []))
    -- The transpose may need a longer work buffer
    × (numbers_of (solve_reply 7 2 (transpose_t 7 2 D (lent 8)) x12 [] (lent 2)) ≡ (4 ∷ 4 ∷ 0 ∷ 0 ∷ []))
    × (numbers_of (solve_reply 7 2 D x12 [] (lent 2)) ≡ (0 ∷ 0 ∷ 0 ∷ 0 ∷ []))
    -- Solving through a product: it holds; without the solve of A B, of A, of B
    × (solve_through E F (lent 2) ≡ ((0 ∷ 0 ∷ 0 ∷ []) ∷ (5 ∷ 2 ∷ 99 ∷ []) ∷ (5 ∷ 2 ∷ 99 ∷ []) ∷ []))
    × (solve_through E G (lent 2) ≡ ((7 ∷ 0 ∷ 0 ∷ []) ∷ (88 ∷ 88 ∷ 99 ∷ []) ∷ (1 ∷ 1 ∷ 99 ∷ []) ∷ []))
    × (solve_through X E (1 ∷ 1 ∷ []) ≡ ((0 ∷ 7 ∷ 0 ∷ []) ∷ (1 ∷ 1 ∷ 99 ∷ []) ∷ (1 ∷ 0 ∷ 99 ∷ []) ∷ []))
    × (solve_through E X (lent 2) ≡ ((0 ∷ 0 ∷ 7 ∷ []) ∷ (6 ∷ 2 ∷ 99 ∷ []) ∷ (88 ∷ 88 ∷ 99 ∷ []) ∷ []))
    -- False, though every call accepts: A's inverse times B's; A's transpose times B's; solving with B and then A
    × (inverses_not_reversed E F ≡ ((0 ∷ 0 ∷ 0 ∷ 0 ∷ []) ∷ (4 ∷ 4 ∷ 5 ∷ 2 ∷ []) ∷ (0 ∷ 5 ∷ 1 ∷ 6 ∷ []) ∷ []))
    × (transposes_not_reversed E F ≡ ((0 ∷ 0 ∷ 0 ∷ 0 ∷ 0 ∷ []) ∷ (1 ∷ 1 ∷ 5 ∷ 2 ∷ []) ∷ (3 ∷ 3 ∷ 1 ∷ 0 ∷ []) ∷ []))
    × (solve_other_way E F ≡ ((0 ∷ 0 ∷ 0 ∷ []) ∷ (5 ∷ 2 ∷ 99 ∷ []) ∷ (3 ∷ 6 ∷ 99 ∷ []) ∷ []))
unfolding fold join entry_of below above products_g x_states y_states inverses_g pivots fs vs ys zs solved_g ahead behind residues res val of add mul neg inv
    inverse_of inverse_by res_dec is_prime_of divided some first_of row_gens gens matrix_of row_words_of table_words bad_row_of first_bad_of first_bad_place_of matrix_w
    transpose_w inverse_w pivot_w first_zero_of solve_w product_w answer transpose_reply solve_reply inverse_reply product_reply
computed = (
  refl,
  refl,
  refl,
  refl,
  refl,
  refl,
  refl,
  refl,
  refl,
  refl,
  refl,
  refl,
  refl,
  refl,
  refl,
  refl,
  refl,
  refl,
  refl,
  refl,
  refl,
  refl,
  refl,
  refl,
  refl,
  refl,
  refl,
  refl,
  refl,
  refl,
  refl,
  refl,
  refl,
)
