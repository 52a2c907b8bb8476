-- The chain of idle cells.
use Rattle.std.proofs.Common.{◌≡◌, ℕ, ◌+◌, ◌<◌, ◌≤◌, List, [], ◌∷◌, length, get_or, set, Some, None, Option, sym, refl, ap, ◌∙◌, arith, length-set}
use Rattle.std.proofs.lemmas.List.{get_or-set_same, get_or-set_other}
use Rattle.std.proofs.lemmas.Bool.Decides.{nat_tests}
use Rattle.cells.specs.IdleCells.{first, times, Chained, IdleFrom}

pub first_idle : (is : List ℕ) (i : ℕ) → Some i ≡ first is → (js : List ℕ) × (is ≡ i ∷ js)
first_idle [] i h = let z : ◌≡◌ {A = ℕ} 0 1 = cc in absurd (omega arith)
first_idle (j ∷ js) i h = let same : i ≡ j = cc in (js, ap (λ x. x ∷ js) (sym same))

pub no_idle : (is : List ℕ) → None ≡ first is → length is ≡ 0
no_idle [] h = refl
no_idle (i ∷ is) h = let z : ◌≡◌ {A = ℕ} 0 1 = cc in absurd (omega arith)

module _ {K : Type 0} (none : K) (idle : Option ℕ → K) where
  -- the chain stays where its cells stay
  pub chain_framed : (ls ls' : List K) (is : List ℕ) → length ls ≤ length ls' → ((k : ℕ) → 0 < times is k → get_or ls' k none ≡ get_or ls k none) → Chained none idle ls is → Chained none idle ls' is
  chain_framed ls ls' [] long same h = tt
  chain_framed ls ls' (i ∷ is) long same h = (omega (arith, h.0), same i (grind (arith, nat_tests)) ∙ h.1, chain_framed ls ls' is long (λ k u. same k (omega arith)) h.2)

  -- no cell yet
  pub idle_none : (ls : List K) (i : ℕ) → i ≡ length ls → IdleFrom none idle ls None i
  idle_none ls i e = record { cells = []; chained = tt; at = refl; count = omega (arith, e); above = λ k l. refl; once = λ k. omega arith }

  -- one cell more, in front: v is what it holds
  pub idle_more : (ls : List K) (free : Option ℕ) (v : K) → v ≡ idle free → (i j : ℕ) → i ≡ j + 1 → IdleFrom none idle ls free i → IdleFrom none idle (set ls j v) (Some j) j
  idle_more ls free v v-is i j e h = record {
    cells = j ∷ h.cells;
    chained = (omega (arith, length-set ls j v, h.count, e), get_or-set_same ls j v none (omega (arith, h.count, e)) ∙ v-is ∙ ap idle h.at, chain_framed ls (set ls j v) h.cells (omega (arith, length-set ls j v)) (λ k u. get_or-set_other ls j k v none (λ z. omega (arith, u, h.above k (omega (arith, z, e))))) h.chained);
    at = refl;
    count = omega (arith, length-set ls j v, h.count, e);
    above = λ k l. grind (arith, nat_tests, h.above k (omega (arith, e, l)), l);
    once = λ k. grind (arith, nat_tests, h.above k, h.once k, e);
  }
