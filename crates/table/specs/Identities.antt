-- The identities of inverses, products and transposes that authors quote: request M-111, as statements about the calls that Calls.antt defines.
-- Every lent buffer is a letter of its own, and a table on the way is what its call left there: that this call accepts is a condition or part of
-- the conclusion. The proofs are put together in IdentitiesProof.antt.
use Rattle.std.specs.Prelude.{◌↔◌, ◌≡◌, List, ℕ, ◌≤◌, length}
use Rattle.table.specs.Words.{Table, SameColumn}
use Rattle.table.specs.Results.{first_zero_of}
use Rattle.table.specs.Replies.{Accepted, NoFault}
use Rattle.table.specs.Calls.{table_length, transpose_reply, solve_reply, solve_after, solve_earlier, inverse_reply, inverse_earlier, transpose_t, inverse_t}
use Rattle.table.specs.Calls.{product_t}
use Rattle.table.specs.Undertakings.{NoneSingular, Alike, ProductAccepts}

-- d is long enough for a table of A's orders, or of these exchanged
abbrev pub HasRoom : ℕ → List ℕ → Table → Type 0
HasRoom N d A = table_length N A ≤ length d

module _ (P N : ℕ) where
  -- the transpose, inverse and solve calls accept, with the result d and, for solve, the column x and the work buffer v
  abbrev pub TransposeAccepts : Table → List ℕ → Type 0
  TransposeAccepts A d = Accepted (transpose_reply P N A d)

  abbrev pub InverseAccepts : Table → List ℕ → Type 0
  InverseAccepts A d = Accepted (inverse_reply P N A d)

  abbrev pub SolveAccepts : Table → (x v d : List ℕ) → Type 0
  SolveAccepts A x v d = Accepted (solve_reply P N A x v d)

  pub record Identities : Type 0 where
    -- "Where the inverses of A, of B and of their product are all accepted, the product's inverse and B's inverse times A's stand for one matrix."
    pub inverse_of_product_lem : (A B : Table) (c d e f g : List ℕ)
        → let AB = product_t P N A B c in
        let A⁻¹ = inverse_t P N A e in
        let B⁻¹ = inverse_t P N B f in
        InverseAccepts AB d → InverseAccepts A e → InverseAccepts B f → HasRoom N g AB
        → ProductAccepts P N A B c × ProductAccepts P N B⁻¹ A⁻¹ g × Alike P N (inverse_t P N AB d) (product_t P N B⁻¹ A⁻¹ g)
    -- "Where an inverse is accepted and can itself be inverted, the original matrix comes back."
    pub inverse_of_inverse_lem : (A : Table) (d e : List ℕ)
        → let A⁻¹ = inverse_t P N A d in
        InverseAccepts A d → InverseAccepts A⁻¹ e → Alike P N (inverse_t P N A⁻¹ e) A
    -- "The transpose of a product stands for the same matrix as the product of the transposes in reverse."
    pub transpose_of_product_lem : (A B : Table) (c d e f g : List ℕ)
        → let AB = product_t P N A B c in
        let Aᵀ = transpose_t P N A e in
        let Bᵀ = transpose_t P N B f in
        ProductAccepts P N A B c → HasRoom N d AB → HasRoom N e A → HasRoom N f B → HasRoom N g AB
        → TransposeAccepts AB d × TransposeAccepts A e × TransposeAccepts B f × ProductAccepts P N Bᵀ Aᵀ g
        × Alike P N (transpose_t P N AB d) (product_t P N Bᵀ Aᵀ g)
    -- "A table is regular exactly when its transpose is, and their first zero pivots are in the same row."
    -- Regular is what the lister prints: no leading corner is singular, so no pivot is zero, and first_zero_of is 0.
    pub transpose_regular : (A : Table) (d : List ℕ) → TransposeAccepts A d → NoneSingular P N (transpose_t P N A d) ↔ NoneSingular P N A
    pub transpose_first_zero_lem : (A : Table) (d : List ℕ) → TransposeAccepts A d → first_zero_of P N (transpose_t P N A d) ≡ first_zero_of P N A
    -- The same of whole replies: where neither call has an earlier fault, both are accepted, or both are refused as singular at the same row.
    pub transpose_solve : (A : Table) (d x v e x' v' e' : List ℕ)
        → let Aᵀ = transpose_t P N A d in
        NoFault (solve_earlier P N A x v e) → NoFault (solve_earlier P N Aᵀ x' v' e')
        → TransposeAccepts A d × (solve_reply P N Aᵀ x' v' e' ≡ solve_reply P N A x v e)
    pub transpose_inverse : (A : Table) (d e e' : List ℕ)
        → let Aᵀ = transpose_t P N A d in
        NoFault (inverse_earlier P N A e) → NoFault (inverse_earlier P N Aᵀ e')
        → TransposeAccepts A d × (inverse_reply P N Aᵀ e' ≡ inverse_reply P N A e)
    -- "Solving through a product equals solving with A and then B when all three solves accept."
    pub solve_through_lem : (A B : Table) (c x v d v' d' v'' d'' : List ℕ)
        → let AB = product_t P N A B c in
        let y = solve_after P N A x v' d' in
        SolveAccepts AB x v d → SolveAccepts A x v' d' → SolveAccepts B y v'' d''
        → ProductAccepts P N A B c × SameColumn N (solve_after P N AB x v d) (solve_after P N B y v'' d'')
