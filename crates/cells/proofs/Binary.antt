-- Lists of heaps of binary trees.
use Rattle.std.proofs.Common.{◌≡◌, ℕ, ◌+◌, ◌≤◌, Bool, length, refl, arith}
use Rattle.std.proofs.lemmas.Bool.Decides.{nat_tests}
use Rattle.elements.specs.Order.{Strict}
use Rattle.stores.specs.SortedLists.{merge, tally, Leads, Sorted}
use Rattle.stores.proofs.Merging.{tally-merge, leads_merge, sorted_merge}
use Rattle.stores.proofs.Inserting.{length-merge}
use Rattle.cells.specs.Trees.{Tree, leaf, node, size}
use Rattle.cells.specs.Binary.{Over, HeapOrdered, listed}

module _ {A : Type 0} (before : A → A → Bool) where
  pub over_leads : (e : A) (t : Tree A) → Over before e t → Leads before e (listed before t)
  over_leads e leaf h = tt
  over_leads e (node j f l r) h = h

  pub leads_over : (e : A) (t : Tree A) → Leads before e (listed before t) → Over before e t
  leads_over e leaf h = tt
  leads_over e (node j f l r) h = h

  pub length_listed : (t : Tree A) → length (listed before t) ≡ size t
  length_listed leaf = refl
  length_listed (node i e l r) = omega (arith, length-merge before (listed before l) (listed before r), length_listed l, length_listed r)

  module _ (key : A → ℕ) where
    pub root_listed : (i : ℕ) (e : A) (l r : Tree A) → 1 ≤ tally key (listed before (node i e l r)) (key e)
    root_listed i e l r = grind (arith, nat_tests)

    -- the list of a heap is sorted
    pub sorted_listed : (law : Strict before key) (t : Tree A) → ((k : ℕ) → tally key (listed before t) k ≤ 1) → HeapOrdered before t → Sorted before (listed before t)
    sorted_listed law leaf few h = tt
    sorted_listed law (node i e l r) few h =
        let sum : (k : ℕ) → tally key (merge before (listed before l) (listed before r)) k ≡ tally key (listed before l) k + tally key (listed before r) k = tally-merge before key (listed before l) (listed before r) in (
          leads_merge before e (listed before l) (listed before r) (over_leads e l h.0) (over_leads e r h.1),
          sorted_merge before key law (listed before l) (listed before r) (λ k. omega (arith, few k, sum k)) (sorted_listed law l (λ k. omega (arith, few k, sum k)) h.2) (sorted_listed law r (λ k. omega (arith, few k, sum k)) h.3),
        )
