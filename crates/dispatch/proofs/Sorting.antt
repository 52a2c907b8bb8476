-- Insertion sort, and lists numbered by place.
use Rattle.std.proofs.Common.{◌≡◌, ℕ, ◌+◌, ◌<◌, ◌≤◌, Bool, true, false, cond, ◌⊎◌, List, [], ◌∷◌, length, count_by, sym, refl, ap, ◌∙◌, inl, inr, arith}
use Rattle.std.proofs.ByRecursion.{All-weaker}
use Rattle.std.proofs.lemmas.List.Sums.{sum_by-cons}
use Rattle.std.proofs.lemmas.Bool.{cases_Bool}
use Rattle.std.proofs.lemmas.Bool.Decides.{nat_tests}
use Rattle.elements.specs.declared.entries.Entry.{Entry}
use Rattle.elements.specs.Order.{Laws, Strict, precedes_by, stamp_of}
use Rattle.elements.specs.Elements.{line_le}
use Rattle.elements.proofs.Strictness.{strict}
use Rattle.stores.specs.SortedLists.{insert, tally, Sorted}
use Rattle.stores.proofs.Merging.{take_left, take_right}
use Rattle.stores.proofs.Inserting.{length-insert, tally-insert, sorted_insert}
use Rattle.dispatch.specs.Service.{numbered, insertion_sort, Ranked, elements_of, service}

module _ {A : Type 0} (before : A → A → Bool) where
  pub length_sort : (xs : List A) → length (insertion_sort before xs) ≡ length xs
  length_sort [] = refl
  length_sort (x ∷ xs) = omega (arith, length-insert before x (insertion_sort before xs), length_sort xs)

  tally_sort : (key : A → ℕ) (xs : List A) (k : ℕ) → tally key (insertion_sort before xs) k ≡ tally key xs k
  tally_sort key [] k = refl
  tally_sort key (x ∷ xs) k = omega (arith, tally-insert before key x (insertion_sort before xs) k, tally_sort key xs k)

  module _ (p : A → Bool) where
    abbrev one : A → ℕ
    one x = cond (p x) 1 0

    count_insert : (x : A) (ys : List A) → count_by p (insert before x ys) ≡ one x + count_by p ys
    count_insert x [] = sum_by-cons one x []
    count_insert x (y ∷ ys) = go (cases_Bool (before y x)) (count_insert x ys)
      where
        go : (before y x ≡ true) ⊎ (before y x ≡ false) → count_by p (insert before x ys) ≡ one x + count_by p ys → count_by p (insert before x (y ∷ ys)) ≡ one x + count_by p (y ∷ ys)
        go (inl a) r = ap (count_by p) (take_right before x [] y ys a) ∙ omega (arith, r, sum_by-cons one y (insert before x ys), sum_by-cons one y ys)
        go (inr a) r = ap (count_by p) (take_left before x [] y ys a) ∙ sum_by-cons one x (y ∷ ys)

    -- a sort keeps every element, as often as it is there
    pub count_sort : (xs : List A) → count_by p (insertion_sort before xs) ≡ count_by p xs
    count_sort [] = refl
    count_sort (x ∷ xs) = omega (arith, count_insert x (insertion_sort before xs), count_sort xs, sum_by-cons one x xs)

  module _ (key : A → ℕ) (law : Strict before key) where
    sorted_sort : (xs : List A) → ((k : ℕ) → tally key xs k ≤ 1) → Sorted before (insertion_sort before xs)
    sorted_sort [] h = tt
    sorted_sort (x ∷ xs) h =
        sorted_insert before key law x (insertion_sort before xs) (λ k. omega (arith, h k, tally_sort key xs k)) (sorted_sort xs (λ k. omega (arith, h k)))

    -- in a sorted list each comes before all that follow it
    ranked_sorted : (xs : List A) → Sorted before xs → Ranked before xs
    ranked_sorted [] s = tt
    ranked_sorted (x ∷ []) s = (tt, tt)
    ranked_sorted (x ∷ y ∷ ys) s =
        let r = ranked_sorted (y ∷ ys) s.1 in
        ((s.0, All-weaker (λ z. before y z ≡ true) (λ z. before x z ≡ true) (λ z h. law.transitive x y z s.0 h) ys r.0), r)

module _ {T : Type 0} where
  elements_numbered : (n : ℕ) (xs : List T) → elements_of (numbered n xs) ≡ xs
  elements_numbered n [] = refl
  elements_numbered n (x ∷ xs) = ap (λ ys. x ∷ ys) (elements_numbered (n + 1) xs)

  pub length_numbered : (n : ℕ) (xs : List T) → length (numbered n xs) ≡ length xs
  length_numbered n [] = refl
  length_numbered n (x ∷ xs) = omega (arith, length_numbered (n + 1) xs)

  numbered_from : (n : ℕ) (xs : List T) (k : ℕ) → k < n → tally stamp_of (numbered n xs) k ≡ 0
  numbered_from n [] k h = refl
  numbered_from n (x ∷ xs) k h = let i = numbered_from (n + 1) xs k (omega arith) in grind (arith, nat_tests)

  -- no two have the same number
  numbered_once : (n : ℕ) (xs : List T) (k : ℕ) → tally stamp_of (numbered n xs) k ≤ 1
  numbered_once n [] k = omega arith
  numbered_once n (x ∷ xs) k = let i = numbered_once (n + 1) xs k in let j = numbered_from (n + 1) xs k in grind (arith, nat_tests)

  -- a test of elements counts the same on the entries
  count_elements : (p : T → Bool) (es : List (Entry T)) → count_by p (elements_of es) ≡ count_by (λ e. p e.element) es
  count_elements p [] = refl
  count_elements p (e ∷ es) =
      sum_by-cons (λ x. cond (p x) 1 0) e.element (elements_of es)
      ∙ ap (λ n. cond (p e.element) 1 0 + n) (count_elements p es)
      ∙ sym (sum_by-cons (λ d. cond (p d.element) 1 0) e es)

module _ {T : Type 0} (le : T → T → Bool) (xs : List T) where
  pub service_ranked : Laws le → Ranked (precedes_by le) (service le xs)
  service_ranked laws =
      let law = strict le laws in
      ranked_sorted (precedes_by le) stamp_of law (service le xs) (sorted_sort (precedes_by le) stamp_of law (numbered 0 xs) (numbered_once 0 xs))

  pub service_counts : (p : T → Bool) → count_by p (elements_of (service le xs)) ≡ count_by p xs
  service_counts p =
      count_elements p (service le xs)
      ∙ count_sort (precedes_by le) (λ e. p e.element) (numbered 0 xs)
      ∙ sym (count_elements p (numbered 0 xs))
      ∙ ap (count_by p) (elements_numbered 0 xs)

-- orders that wait are ordered
pub line_laws : Laws line_le
line_laws = record { total = λ a b h. grind (arith, nat_tests); transitive = λ a b c h k. grind (arith, nat_tests) }
