-- The cells that are in no tree: each names the next.
use Rattle.std.specs.Prelude.{◌≡◌, ℕ, ◌+◌, ◌<◌, ◌≤◌, List, [], ◌∷◌, length, Some, None, Option, slice_index_or}
use Rattle.stores.specs.SortedLists.{tally}

-- the first of a list of cells
abbrev pub first : List ℕ → Option ℕ
first [] = None
first (i ∷ is) = Some i

-- how often k is in a list of cells
abbrev pub times : List ℕ → ℕ → ℕ
times is k = tally (λ i. i) is k

-- `idle o` is what an idle cell holds that names o as the next one
abbrev pub Chained : {K : Type 0} → K → (Option ℕ → K) → List K → List ℕ → Type 0
Chained none idle ls [] = Unit {0}
Chained none idle ls (i ∷ is) = (i < length ls) × (slice_index_or ls i none ≡ idle (first is)) × Chained none idle ls is

-- the cells from i on are idle, and free is the first
pub record IdleFrom {K : Type 0} (none : K) (idle : Option ℕ → K) (ls : List K) (free : Option ℕ) (i : ℕ) : Type 0 where
  pub cells : List ℕ
  pub chained : Chained none idle ls cells
  pub at : free ≡ first cells
  pub count : length cells + i ≡ length ls
  pub above : (k : ℕ) → k < i → times cells k ≡ 0
  pub once : (k : ℕ) → times cells k ≤ 1
