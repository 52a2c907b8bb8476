-- Lists where one place changes.
use Rattle.std.proofs.Common.{◌≡◌, ℕ, zero, suc, ◌+◌, ◌<◌, ◌≤◌, ◌≢◌, List, [], ◌∷◌, map, length, get_or, set, replicate, sum_by, sym, refl, ap, arith}
use Rattle.std.specs.List.{AllByRecursion}
use Rattle.std.proofs.lemmas.List.{length-set, get_or-set_other}
use Rattle.std.proofs.lemmas.List.Sums.{sum_by-cons, sum_by-set}

pub all_at : {X : Type 0} (P : X → Type 0) (d : X) → P d → (xs : List X) (q : ℕ) → AllByRecursion P xs → P (get_or xs q d)
all_at P d e [] q a = e
all_at P d e (x ∷ xs) zero a = a.0
all_at P d e (x ∷ xs) (suc q) a = all_at P d e xs q a.1

pub map_at : {X Y : Type 0} (f : X → Y) (d : X) (e : Y) → f d ≡ e → (xs : List X) (q : ℕ) → get_or (map f xs) q e ≡ f (get_or xs q d)
map_at f d e h [] q = sym h
map_at f d e h (x ∷ xs) zero = refl
map_at f d e h (x ∷ xs) (suc q) = map_at f d e h xs q

module _ {X : Type 0} (f : X → ℕ) (d : X) (e : f d ≡ 0) where
  pub sum_at : (xs : List X) (q : ℕ) → f (get_or xs q d) ≤ sum_by f xs
  sum_at [] q = omega (arith, e)
  sum_at (x ∷ xs) zero = omega (arith, sum_by-cons f x xs)
  sum_at (x ∷ xs) (suc q) = omega (arith, sum_by-cons f x xs, sum_at xs q)

  pub sum_two : (xs : List X) (p q : ℕ) → p ≢ q → f (get_or xs p d) + f (get_or xs q d) ≤ sum_by f xs
  sum_two [] p q ne = omega (arith, e)
  sum_two (x ∷ xs) zero zero ne = absurd (ne refl)
  sum_two (x ∷ xs) zero (suc q) ne = omega (arith, sum_by-cons f x xs, sum_at xs q)
  sum_two (x ∷ xs) (suc p) zero ne = omega (arith, sum_by-cons f x xs, sum_at xs p)
  sum_two (x ∷ xs) (suc p) (suc q) ne = omega (arith, sum_by-cons f x xs, sum_two xs p q (λ k. ne (ap suc k)))

-- two lists become one and none
pub sum_joined : {X : Type 0} (xss : List (List X)) (a b : ℕ) (zs : List X) → a < length xss → b < length xss → a ≢ b → length zs ≡ length (get_or xss a []) + length (get_or xss b []) → sum_by length (set (set xss a zs) b []) ≡ sum_by length xss
sum_joined xss a b zs la lb ne e =
    let one = sum_by-set length xss a zs [] la in
    let two = sum_by-set length (set xss a zs) b [] [] (omega (arith, length-set xss a zs)) in
    let same : length (get_or (set xss a zs) b []) ≡ length (get_or xss b []) = ap length (get_or-set_other xss a b zs [] (λ k. ne (sym k))) in
    omega arith

-- elsewhere g does what f did
module _ {X Y : Type 0} (f g : X → Y) (d : X) where
  pub map_alike : (xs : List X) → ((p : ℕ) → g (get_or xs p d) ≡ f (get_or xs p d)) → map g xs ≡ map f xs
  map_alike [] h = refl
  map_alike (x ∷ xs) h = let e : g x ≡ f x = h 0 in rw (e, map_alike xs (λ p. h (suc p)))

  pub map_changed : (xs : List X) (q : ℕ) (y : X) (z : Y) → g y ≡ z → ((p : ℕ) → p ≢ q → g (get_or xs p d) ≡ f (get_or xs p d)) → map g (set xs q y) ≡ set (map f xs) q z
  map_changed [] q y z e h = refl
  map_changed (x ∷ xs) zero y z e h = rw (e, map_alike xs (λ p. h (suc p) (λ k. omega (arith, k))))
  map_changed (x ∷ xs) (suc q) y z e h = let i : g x ≡ f x = h 0 (λ k. omega (arith, k)) in rw (i, map_changed xs q y z e (λ p ne. h (suc p) (λ k. ne (omega (arith, k)))))

-- elsewhere Q holds where P held
module _ {X : Type 0} (P Q : X → Type 0) (d : X) where
  all_alike : (xs : List X) → ((p : ℕ) → P (get_or xs p d) → Q (get_or xs p d)) → AllByRecursion P xs → AllByRecursion Q xs
  all_alike [] h a = tt
  all_alike (x ∷ xs) h a = (h 0 a.0, all_alike xs (λ p. h (suc p)) a.1)

  pub all_changed : (xs : List X) (q : ℕ) (y : X) → Q y → ((p : ℕ) → p ≢ q → P (get_or xs p d) → Q (get_or xs p d)) → AllByRecursion P xs → AllByRecursion Q (set xs q y)
  all_changed [] q y e h a = tt
  all_changed (x ∷ xs) zero y e h a = (e, all_alike xs (λ p. h (suc p) (λ k. omega (arith, k))) a.1)
  all_changed (x ∷ xs) (suc q) y e h a = (h 0 (λ k. omega (arith, k)) a.0, all_changed xs q y e (λ p ne. h (suc p) (λ k. ne (omega (arith, k)))) a.1)

pub replicate_at : {X : Type 0} (n : ℕ) (d : X) (k : ℕ) → get_or (replicate n d) k d ≡ d
replicate_at zero d k = refl
replicate_at (suc n) d zero = refl
replicate_at (suc n) d (suc k) = replicate_at n d k
