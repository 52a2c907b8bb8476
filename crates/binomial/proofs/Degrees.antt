-- A tree of degree k has 2ᵏ nodes, so that degrees are low.
use Rattle.std.proofs.Common.{◌≡◌, ℕ, ◌+◌, ◌^◌, ◌<◌, ◌≤◌, refl, ap, ◌∙◌, add-one, arith}
use native.Mathlib.Nat.{two-pow-succ, pow-le-pow_right}
use Rattle.cells.specs.Trees.{Tree, leaf, node, size}
use Rattle.binomial.specs.Binomial.{trees, Falling, DegreesAreLow}

double : (n : ℕ) → 2 ^ (n + 1) ≡ 2 ^ n + 2 ^ n
double n = ap (λ m. 2 ^ m) (add-one n) ∙ two-pow-succ n

falling_size : {A : Type 0} (t : Tree A) → Falling t → size t + 1 ≡ 2 ^ trees t
falling_size leaf h = refl
falling_size (node i e c s) h = omega (arith, falling_size c h.1, falling_size s h.2, double (trees s), ap (λ n. 2 ^ n) h.0)

low_power : (k : ℕ) → 2 ^ k ≤ 4096 → k ≤ 12
low_power k few = at_most (λ high. omega (arith, few, pow-le-pow_right {n = 2} (omega arith) {i = 13} {j = k} high))
  where
    at_most : (12 < k → ⊥) → k ≤ 12
    at_most h = omega (arith, h)

-- the children of a node in a store of 4,096 cells
pub low : {A : Type 0} (c : Tree A) → Falling c → size c < 4096 → trees c ≤ 12
low c h few = low_power (trees c) (omega (arith, falling_size c h, few))

pub degrees_are_low : {A : Type 0} → DegreesAreLow A
degrees_are_low k leaf h = absurd h
degrees_are_low k (node i e c s) h =
    let count : size (node i e c s) ≡ 2 ^ k = omega (arith, ap size h.0, falling_size c h.1.0, ap (λ n. 2 ^ n) h.1.1) in
    (count, λ few. low_power k (omega (arith, few, count)))
