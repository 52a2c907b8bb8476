-- The list that a forest stands for: its length, its order, and what it becomes when trees are moved or joined.
use Rattle.std.proofs.Common.{◌≡◌, ℕ, ◌+◌, ◌≤◌, Bool, true, [], ◌∷◌, length, sym, refl, ap, ◌∙◌, arith}
use Rattle.std.proofs.lemmas.Bool.Decides.{nat_tests}
use Rattle.elements.specs.Order.{Strict}
use Rattle.stores.specs.SortedLists.{merge, tally, Leads, Sorted}
use Rattle.stores.proofs.Merging.{merge-nil, merge_first, merge_assoc, merge_comm, tally-merge, leads_merge, sorted_merge}
use Rattle.stores.proofs.Inserting.{length-merge}
use Rattle.cells.specs.Trees.{Tree, leaf, node, size}
use Rattle.forests.specs.Forests.{Over, HeapOrdered, listed}

module _ {A : Type 0} (before : A → A → Bool) where
  pub list_long : (t : Tree A) → length (listed before t) ≡ size t
  list_long leaf = refl
  list_long (node i e c s) = omega (arith, length-merge before (e ∷ listed before c) (listed before s), list_long c, list_long s)

  pub leads : (e : A) (t : Tree A) → Over before e t → Leads before e (listed before t)
  leads e leaf o = tt
  leads e (node i f c s) o = leads_merge before e (f ∷ listed before c) (listed before s) o.0 (leads e s o.1)

  -- one tree: the root, then the children's list
  pub list_lone : (i : ℕ) (e : A) (c : Tree A) → listed before (node i e c leaf) ≡ e ∷ listed before c
  list_lone i e c = merge-nil before (e ∷ listed before c)

  module _ (key : A → ℕ) where
    pub tally_first : (i : ℕ) (e : A) (c s : Tree A) (k : ℕ) → tally key (listed before (node i e c s)) k ≡ tally key (e ∷ listed before c) k + tally key (listed before s) k
    tally_first i e c s k = tally-merge before key (e ∷ listed before c) (listed before s) k

    pub tally_lone : (i : ℕ) (e : A) (c : Tree A) (k : ℕ) → tally key (listed before (node i e c leaf)) k ≡ tally key (e ∷ listed before c) k
    tally_lone i e c k = ap (λ x. tally key x k) (list_lone i e c)

    pub tally_root : (i : ℕ) (e : A) (c s : Tree A) → 1 ≤ tally key (listed before (node i e c s)) (key e)
    tally_root i e c s = grind (arith, nat_tests, tally_first i e c s (key e))

    module _ (law : Strict before key) where
      pub sorted_list : (t : Tree A) → ((k : ℕ) → tally key (listed before t) k ≤ 1) → HeapOrdered before t → Sorted before (listed before t)
      sorted_list leaf once h = tt
      sorted_list (node i e c s) once h =
          sorted_merge before key law (e ∷ listed before c) (listed before s)
          (λ k. omega (arith, once k, tally_first i e c s k))
          (leads e c h.0, sorted_list c (λ k. omega (arith, once k, tally_first i e c s k)) h.1)
          (sorted_list s (λ k. omega (arith, once k, tally_first i e c s k)) h.2)

      -- the first tree of a forest goes before another forest
      pub list_moved : (i : ℕ) (e : A) (c u t : Tree A) → ((k : ℕ) → tally key (listed before (node i e c u)) k ≤ 1) → merge before (listed before u) (listed before (node i e c t)) ≡ merge before (listed before (node i e c u)) (listed before t)
      list_moved i e c u t once =
          sym (merge_assoc before key law (listed before u) (e ∷ listed before c) (listed before t))
          ∙ ap (λ x. merge before x (listed before t)) (merge_comm before key law (listed before u) (e ∷ listed before c) (λ k. omega (arith, once k, tally_first i e c u k)))

      -- a tree becomes the first child of the root that precedes its root
      list_adopted : (i j : ℕ) (e f : A) (c d : Tree A) → ((k : ℕ) → tally key (listed before (node i e c leaf)) k + tally key (listed before (node j f d leaf)) k ≤ 1) → before e f ≡ true → e ∷ merge before (f ∷ listed before d) (listed before c) ≡ merge before (listed before (node i e c leaf)) (listed before (node j f d leaf))
      list_adopted i j e f c d once h =
          ap (λ x. e ∷ x) (merge_comm before key law (f ∷ listed before d) (listed before c) (λ k. omega (arith, once k, tally_lone i e c k, tally_lone j f d k)))
          ∙ sym (merge_first before key law e (listed before c) (f ∷ listed before d) h)
          ∙ ap (λ x. merge before x (f ∷ listed before d)) (sym (list_lone i e c))
          ∙ ap (merge before (listed before (node i e c leaf))) (sym (list_lone j f d))

      pub list_joined : (i j : ℕ) (e f : A) (c d v : Tree A) → ((k : ℕ) → tally key (listed before (node i e c leaf)) k + tally key (listed before (node j f d leaf)) k ≤ 1) → before e f ≡ true → listed before (node i e (node j f d c) v) ≡ merge before (merge before (listed before (node i e c leaf)) (listed before (node j f d leaf))) (listed before v)
      list_joined i j e f c d v once h = ap (λ x. merge before x (listed before v)) (list_adopted i j e f c d once h)

      -- the first two trees of a forest are joined and go before another forest
      pub list_paired : (i j : ℕ) (e f : A) (c d u v : Tree A) → ((k : ℕ) → tally key (listed before (node i e c (node j f d u))) k ≤ 1) → merge before (listed before u) (merge before (merge before (listed before (node i e c leaf)) (listed before (node j f d leaf))) (listed before v)) ≡ merge before (listed before (node i e c (node j f d u))) (listed before v)
      list_paired i j e f c d u v once =
          ap (λ x. merge before (listed before u) (merge before (merge before x (listed before (node j f d leaf))) (listed before v))) (list_lone i e c)
          ∙ ap (λ x. merge before (listed before u) (merge before (merge before (e ∷ listed before c) x) (listed before v))) (list_lone j f d)
          ∙ sym (merge_assoc before key law (listed before u) (merge before (e ∷ listed before c) (f ∷ listed before d)) (listed before v))
          ∙ ap (λ x. merge before x (listed before v)) (merge_comm before key law (listed before u) (merge before (e ∷ listed before c) (f ∷ listed before d)) (λ k. omega (arith, once k, tally_first i e c (node j f d u) k, tally_first j f d u k, tally-merge before key (e ∷ listed before c) (f ∷ listed before d) k)))
          ∙ ap (λ x. merge before x (listed before v)) (merge_assoc before key law (e ∷ listed before c) (f ∷ listed before d) (listed before u))

      -- the first tree of a forest is joined to another forest
      pub list_gathered : (i : ℕ) (e : A) (c u w : Tree A) → ((k : ℕ) → tally key (listed before (node i e c u)) k + tally key (listed before w) k ≤ 1) → merge before (listed before u) (merge before (merge before (listed before w) (listed before (node i e c leaf))) []) ≡ merge before (listed before (node i e c u)) (listed before w)
      list_gathered i e c u w once =
          ap (merge before (listed before u)) (merge-nil before (merge before (listed before w) (listed before (node i e c leaf))))
          ∙ ap (λ x. merge before (listed before u) (merge before (listed before w) x)) (list_lone i e c)
          ∙ ap (merge before (listed before u)) (merge_comm before key law (listed before w) (e ∷ listed before c) (λ k. omega (arith, once k, tally_first i e c u k)))
          ∙ list_moved i e c u w (λ k. omega (arith, once k))
