-- What counts of a joining is the joining of what counts.
use Rattle.std.proofs.Common.{◌≡◌, ℕ, Bool, true, false, cond, ◌⊎◌, List, [], ◌∷◌, sym, refl, ap, ◌∙◌, inl, inr}
use Rattle.std.specs.List.{AllByRecursion}
use Rattle.std.proofs.ByRecursion.{All-weaker}
use Rattle.std.proofs.lemmas.Bool.{cases_Bool, both_ways}
use Rattle.elements.specs.declared.entries.Entry.{Entry}
use Rattle.elements.specs.Order.{Strict, stamp_of}
use Rattle.stores.specs.SortedLists.{merge, Leads, Sorted}
use Rattle.stores.proofs.Merging.{take_left, take_right, merge-nil}
use Rattle.stores.proofs.Removing.{front_before}
use Rattle.cancelled.specs.Cancelled.{queued, kept, Front}
use Rattle.cancelled.proofs.Keeping.{keep_yes, keep_no, kept_nil, all_kept}

module _ {T : Type 0} (before : Entry T → Entry T → Bool) where
  -- what is before all of one list, or not behind any, comes first in the joining
  first_right : (y : Entry T) (xs ys : List (Entry T)) → AllByRecursion (λ z. before y z ≡ true) xs → merge before xs (y ∷ ys) ≡ y ∷ merge before xs ys
  first_right y [] ys a = refl
  first_right y (x ∷ xs) ys a = take_right before x xs y ys a.0

  first_left : (x : Entry T) (xs ys : List (Entry T)) → AllByRecursion (λ z. before z x ≡ false) ys → merge before (x ∷ xs) ys ≡ x ∷ merge before xs ys
  first_left x xs [] a = refl
  first_left x xs (y ∷ ys) a = take_left before x xs y ys a.0

  leads : (x : Entry T) (xs : List (Entry T)) → AllByRecursion (λ y. before x y ≡ true) xs → Leads before x xs
  leads x [] a = tt
  leads x (y ∷ ys) a = a.0

  pub front_merge : (marks : List ℕ) (xs ys : List (Entry T)) → Front marks xs → Front marks ys → Front marks (merge before xs ys)
  front_merge marks [] ys p q = q
  front_merge marks (x ∷ xs) [] p q = p
  front_merge marks (x ∷ xs) (y ∷ ys) p q = elim (before y x) as (λ b. Front marks (elim b as (λ _. List (Entry T)) [ true ↦ y ∷ merge before (x ∷ xs) ys | false ↦ x ∷ merge before xs (y ∷ ys) ])) [ true ↦ q | false ↦ p ]

  module _ (law : Strict before stamp_of) (marks : List ℕ) where
    pub kept_sorted : (xs : List (Entry T)) → Sorted before xs → Sorted before (kept marks xs)
    unfolding kept
    kept_sorted [] s = tt
    kept_sorted (x ∷ xs) s =
        let r = kept_sorted xs s.1 in
        let l = leads x (kept marks xs) (all_kept _ marks xs (front_before before stamp_of law x xs s)) in
        elim (queued marks x.stamp) as (λ b. Sorted before (cond b (x ∷ kept marks xs) (kept marks xs))) [ true ↦ (l, r) | false ↦ r ]

    not_before : (x y v : Entry T) → before y x ≡ false → before y v ≡ true → before v x ≡ false
    not_before x y v h k = elim (cases_Bool (before v x)) [ inl t ↦ absurd (both_ways (before y x) h (law.transitive y v x k t)) | inr f ↦ f ]

    kept_2 : (x : Entry T) (xs : List (Entry T)) → Sorted before (x ∷ xs) → ((us : List (Entry T)) → Sorted before us → kept marks (merge before xs us) ≡ merge before (kept marks xs) (kept marks us)) → (ys : List (Entry T)) → Sorted before ys → kept marks (merge before (x ∷ xs) ys) ≡ merge before (kept marks (x ∷ xs)) (kept marks ys)
    kept_2 x xs p ih [] q = ap (kept marks) (merge-nil before (x ∷ xs)) ∙ sym (ap (merge before (kept marks (x ∷ xs))) (kept_nil marks) ∙ merge-nil before (kept marks (x ∷ xs)))
    kept_2 x xs p ih (y ∷ ys) q = go (cases_Bool (before y x)) (cases_Bool (queued marks x.stamp)) (cases_Bool (queued marks y.stamp)) (kept_2 x xs p ih ys q.1) (ih (y ∷ ys) q)
      where
        go : (before y x ≡ true) ⊎ (before y x ≡ false) → (queued marks x.stamp ≡ true) ⊎ (queued marks x.stamp ≡ false) → (queued marks y.stamp ≡ true) ⊎ (queued marks y.stamp ≡ false)
            → kept marks (merge before (x ∷ xs) ys) ≡ merge before (kept marks (x ∷ xs)) (kept marks ys) → kept marks (merge before xs (y ∷ ys)) ≡ merge before (kept marks xs) (kept marks (y ∷ ys))
            → kept marks (merge before (x ∷ xs) (y ∷ ys)) ≡ merge before (kept marks (x ∷ xs)) (kept marks (y ∷ ys))
        go (inl a) u (inl v) r s =
            let all : AllByRecursion (λ z. before y z ≡ true) (x ∷ xs) = (a, All-weaker _ _ (λ z h. law.transitive y x z a h) xs (front_before before stamp_of law x xs p)) in
            ap (kept marks) (take_right before x xs y ys a)
            ∙ keep_yes marks y (merge before (x ∷ xs) ys) v
            ∙ ap (λ l. y ∷ l) r
            ∙ sym (first_right y (kept marks (x ∷ xs)) (kept marks ys) (all_kept _ marks (x ∷ xs) all))
            ∙ ap (merge before (kept marks (x ∷ xs))) (sym (keep_yes marks y ys v))
        go (inl a) u (inr v) r s =
            ap (kept marks) (take_right before x xs y ys a)
            ∙ keep_no marks y (merge before (x ∷ xs) ys) v
            ∙ r
            ∙ ap (merge before (kept marks (x ∷ xs))) (sym (keep_no marks y ys v))
        go (inr a) (inl u) v r s =
            let all : AllByRecursion (λ z. before z x ≡ false) (y ∷ ys) = (a, All-weaker _ _ (λ z h. not_before x y z a h) ys (front_before before stamp_of law y ys q)) in
            ap (kept marks) (take_left before x xs y ys a)
            ∙ keep_yes marks x (merge before xs (y ∷ ys)) u
            ∙ ap (λ l. x ∷ l) s
            ∙ sym (first_left x (kept marks xs) (kept marks (y ∷ ys)) (all_kept _ marks (y ∷ ys) all))
            ∙ ap (λ l. merge before l (kept marks (y ∷ ys))) (sym (keep_yes marks x xs u))
        go (inr a) (inr u) v r s =
            ap (kept marks) (take_left before x xs y ys a)
            ∙ keep_no marks x (merge before xs (y ∷ ys)) u
            ∙ s
            ∙ ap (λ l. merge before l (kept marks (y ∷ ys))) (sym (keep_no marks x xs u))

    pub kept_merge : (xs ys : List (Entry T)) → Sorted before xs → Sorted before ys → kept marks (merge before xs ys) ≡ merge before (kept marks xs) (kept marks ys)
    kept_merge [] ys p q = ap (λ l. merge before l (kept marks ys)) (sym (kept_nil marks))
    kept_merge (x ∷ xs) ys p q = kept_2 x xs p (λ us u. kept_merge xs us p.1 u) ys q
