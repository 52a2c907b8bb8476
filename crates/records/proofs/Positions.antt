-- No element passes a test that has no position.
use Rattle.std.proofs.Common.{◌≡◌, ℕ, ◌≤◌, Bool, true, false, cond, ◌⊎◌, List, [], ◌∷◌, length, None, count_by, position, refl, inl, inr, arith}
use Rattle.std.specs.List.{position_or_len}
use Rattle.std.proofs.lemmas.List.Sums.{sum_by-cons}
use Rattle.std.proofs.lemmas.Bool.{cases_Bool, cond-false}
use Rattle.std.proofs.lemmas.Grind.{common_steps}

module _ {A : Type 0} (test : A → Bool) where
  none_passes : (xs : List A) → length xs ≤ position_or_len test xs → count_by test xs ≡ 0
  none_passes [] h = refl
  none_passes (x ∷ xs) h = go (cases_Bool (test x)) (none_passes xs)
    where
      go : (test x ≡ true) ⊎ (test x ≡ false) → (length xs ≤ position_or_len test xs → count_by test xs ≡ 0) → count_by test (x ∷ xs) ≡ 0
      go (inl a) r = absurd (let z : position_or_len test (x ∷ xs) ≡ 0 = grind (arith, common_steps) in omega (arith, h, z))
      go (inr a) r = omega (arith, sum_by-cons (λ y. cond {A = ℕ} (test y) 1 0) x xs, cond-false {A = ℕ} (test x) 1 0 a, r (grind (arith, common_steps)))

  pub position_none : (xs : List A) → position test xs ≡ None → count_by test xs ≡ 0
  position_none xs e = let past : length xs ≤ position_or_len test xs = grind (arith, common_steps) in none_passes xs past
