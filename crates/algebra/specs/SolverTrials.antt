-- Trials of the ring solver. An edit of one identity into a false one is among the edits that must be refused.
use Rattle.std.specs.Prelude.{◌≡◌, refl, [], ◌∷◌}
use Rattle.algebra.specs.Ring.{Ring}
use Rattle.algebra.specs.RingSolver.{Quote, q_v, solve, quotes, ring₂, ring₄}

module _ (K : Ring) where
  open K use {car, add as ◌⊕◌, mul as ◌⊗◌, neg}

  infixl 65 ◌⊕◌
  infixl 70 ◌⊗◌
  difference_of_squares : (a b : car) → (a ⊕ b) ⊗ (a ⊕ neg b) ≡ a ⊗ a ⊕ neg (b ⊗ b)
  difference_of_squares a b = ring₂ K a b (search quotes) (search quotes) refl

  -- 64 monomials
  cube : (a b c d : car) → (a ⊕ b ⊕ c ⊕ d) ⊗ (a ⊕ b ⊕ c ⊕ d) ⊗ (a ⊕ b ⊕ c ⊕ d) ≡ (d ⊕ b ⊕ c ⊕ a) ⊗ ((a ⊕ d ⊕ c ⊕ b) ⊗ (c ⊕ b ⊕ a ⊕ d))
  cube a b c d = ring₄ K a b c d (search quotes depth 9) (search quotes depth 9) refl

  -- an atom that is no variable
  square : (f : car → car) (a b : car) → (f a ⊕ b) ⊗ (f a ⊕ b) ≡ f a ⊗ f a ⊕ (b ⊕ b) ⊗ f a ⊕ b ⊗ b
  square f a b = ring₂ K (f a) b (search quotes) (search quotes) refl

  -- the determinant of a product of two 2 by 2 matrices
  determinant : (a b c d e f g h : car)
      → (a ⊗ e ⊕ b ⊗ g) ⊗ (c ⊗ f ⊕ d ⊗ h) ⊕ neg ((a ⊗ f ⊕ b ⊗ h) ⊗ (c ⊗ e ⊕ d ⊗ g)) ≡ (a ⊗ d ⊕ neg (b ⊗ c)) ⊗ (e ⊗ h ⊕ neg (f ⊗ g))
  determinant a b c d e f g h =
      let Q : car → Type 0 = Quote K (a ∷ b ∷ c ∷ d ∷ e ∷ f ∷ g ∷ h ∷ []) in
      let qa : Q a = q_v 0 in
      let qb : Q b = q_v 1 in
      let qc : Q c = q_v 2 in
      let qd : Q d = q_v 3 in
      let qe : Q e = q_v 4 in
      let qf : Q f = q_v 5 in
      let qg : Q g = q_v 6 in
      let qh : Q h = q_v 7 in
      solve {K = K} {ρ = a ∷ b ∷ c ∷ d ∷ e ∷ f ∷ g ∷ h ∷ []} (search quotes) (search quotes) refl
