-- One entry enters a sorted list, or leaves it again.
use Rattle.std.proofs.Common.{◌≡◌, ℕ, ◌+◌, ◌<◌, ◌≤◌, Bool, true, false, cond, eqb, ◌⊎◌, List, [], ◌∷◌, length, Some, sym, refl, ap, ◌∙◌, inl, inr, arith}
use Rattle.std.proofs.lemmas.Bool.{cases_Bool, cond-true, cond-false, eq-eqb, both_ways}
use Rattle.std.proofs.lemmas.Bool.Decides.{nat_tests}
use Rattle.elements.specs.declared.entries.Entry.{Entry}
use Rattle.elements.specs.Order.{Strict, stamp_of}
use Rattle.stores.specs.SortedLists.{merge, insert, has, without, tally, Sorted}
use Rattle.stores.specs.Calls.{front, rest}
use Rattle.stores.proofs.Merging.{take_left, take_right, merge_assoc, merge_comm, tally-merge, sorted_merge}

module _ {A : Type 0} (before : A → A → Bool) where
  length_2 : (x : A) (xs : List A) → ((us : List A) → length (merge before xs us) ≡ length xs + length us) → (ys : List A) → length (merge before (x ∷ xs) ys) ≡ length (x ∷ xs) + length ys
  length_2 x xs ih [] = omega (arith, ih [])
  length_2 x xs ih (y ∷ ys) = go (cases_Bool (before y x)) (length_2 x xs ih ys) (ih (y ∷ ys))
    where
      go : (before y x ≡ true) ⊎ (before y x ≡ false) → length (merge before (x ∷ xs) ys) ≡ length (x ∷ xs) + length ys → length (merge before xs (y ∷ ys)) ≡ length xs + length (y ∷ ys) → length (merge before (x ∷ xs) (y ∷ ys)) ≡ length (x ∷ xs) + length (y ∷ ys)
      go (inl a) r s = rw (take_right before x xs y ys a) (omega arith)
      go (inr a) r s = rw (take_left before x xs y ys a) (omega arith)

  pub length-merge : (xs ys : List A) → length (merge before xs ys) ≡ length xs + length ys
  length-merge [] ys = omega arith
  length-merge (x ∷ xs) ys = length_2 x xs (length-merge xs) ys

  pub length-insert : (x : A) (ys : List A) → length (insert before x ys) ≡ length ys + 1
  length-insert x ys = omega (arith, length-merge (x ∷ []) ys)

  pub tally-insert : (key : A → ℕ) (x : A) (ys : List A) (k : ℕ) → tally key (insert before x ys) k ≡ cond (eqb (key x) k) 1 0 + tally key ys k
  tally-insert key x ys k = omega (arith, tally-merge before key (x ∷ []) ys k)

  module _ (key : A → ℕ) (law : Strict before key) where
    -- two with different keys enter in either order
    pub insert_swap : (x y : A) (l : List A) → (key x ≡ key y → ⊥) → insert before x (insert before y l) ≡ insert before y (insert before x l)
    insert_swap x y l ne =
        sym (merge_assoc before key law (x ∷ []) (y ∷ []) l)
        ∙ ap (λ m. merge before m l) (merge_comm before key law (x ∷ []) (y ∷ []) (λ k. grind (arith, nat_tests)))
        ∙ merge_assoc before key law (y ∷ []) (x ∷ []) l

    pub insert_first : (x : A) (us vs : List A) → insert before x (merge before us vs) ≡ merge before (insert before x us) vs
    insert_first x us vs = sym (merge_assoc before key law (x ∷ []) us vs)

    -- what enters a joining may enter the second list
    pub insert_second : (x : A) (us vs : List A) → ((k : ℕ) → cond (eqb (key x) k) 1 0 + tally key us k ≤ 1) → insert before x (merge before us vs) ≡ merge before us (insert before x vs)
    insert_second x us vs h =
        sym (merge_assoc before key law (x ∷ []) us vs)
        ∙ ap (λ m. merge before m vs) (merge_comm before key law (x ∷ []) us (λ k. omega (arith, h k)))
        ∙ merge_assoc before key law us (x ∷ []) vs

    pub sorted_insert : (x : A) (l : List A) → ((k : ℕ) → cond (eqb (key x) k) 1 0 + tally key l k ≤ 1) → Sorted before l → Sorted before (insert before x l)
    sorted_insert x l h s = sorted_merge before key law (x ∷ []) l (λ k. omega (arith, h k)) (tt, tt) s

module _ {T : Type 0} (before : Entry T → Entry T → Bool) (law : Strict before stamp_of) where
  -- of two that enter, the one behind does not change the front
  pub front_behind : (x y : Entry T) (l : List (Entry T)) → before x y ≡ true → front (insert before y (insert before x l)) ≡ front (insert before x l)
  front_behind x y [] h = ap front (take_right before y [] x [] h)
  front_behind x y (z ∷ l) h = go (cases_Bool (before z x))
    where
      go : (before z x ≡ true) ⊎ (before z x ≡ false) → front (insert before y (insert before x (z ∷ l))) ≡ front (insert before x (z ∷ l))
      go (inl a) =
          ap (λ m. front (insert before y m)) (take_right before x [] z l a)
          ∙ ap front (take_right before y [] z (insert before x l) (law.transitive z x y a h))
          ∙ sym (ap front (take_right before x [] z l a))
      go (inr a) =
          ap (λ m. front (insert before y m)) (take_left before x [] z l a)
          ∙ ap front (take_right before y [] x (z ∷ l) h)
          ∙ sym (ap front (take_left before x [] z l a))

  pub front_ahead : (x y : Entry T) (l : List (Entry T)) → before x y ≡ false → front (insert before y (insert before x l)) ≡ front (insert before y l)
  front_ahead x y [] h = ap front (take_left before y [] x [] h)
  front_ahead x y (z ∷ l) h = go (cases_Bool (before z x)) (cases_Bool (before z y))
    where
      go : (before z x ≡ true) ⊎ (before z x ≡ false) → (before z y ≡ true) ⊎ (before z y ≡ false) → front (insert before y (insert before x (z ∷ l))) ≡ front (insert before y (z ∷ l))
      go (inl a) (inl b) =
          ap (λ m. front (insert before y m)) (take_right before x [] z l a)
          ∙ ap front (take_right before y [] z (insert before x l) b)
          ∙ sym (ap front (take_right before y [] z l b))
      go (inl a) (inr b) =
          ap (λ m. front (insert before y m)) (take_right before x [] z l a)
          ∙ ap front (take_left before y [] z (insert before x l) b)
          ∙ sym (ap front (take_left before y [] z l b))
      go (inr a) b =
          ap (λ m. front (insert before y m)) (take_left before x [] z l a)
          ∙ ap front (take_left before y [] x (z ∷ l) h)
          ∙ sym (ap front (take_left before y [] z l (law.negatively_transitive z x y a h)))

  -- what entered at the front leaves the others when it is taken
  pub rest_insert : (e : Entry T) (l : List (Entry T)) → front (insert before e l) ≡ Some e → rest (insert before e l) ≡ l
  rest_insert e [] h = refl
  rest_insert e (z ∷ l) h = go (cases_Bool (before z e))
    where
      go : (before z e ≡ true) ⊎ (before z e ≡ false) → rest (insert before e (z ∷ l)) ≡ z ∷ l
      go (inl a) =
          let s : Some z ≡ Some e = sym (ap front (take_right before e [] z l a)) ∙ h in
          let z-is : z ≡ e = cc in
          let b : before e e ≡ true = sym (ap (λ u. before u e) z-is) ∙ a in
          absurd (both_ways (before e e) (law.asymmetric e e b) b)
      go (inr a) = ap rest (take_left before e [] z l a)

module _ {A : Type 0} (key : A → ℕ) where
  pub has_none : (k : ℕ) (l : List A) → tally key l k ≡ 0 → has key k l ≡ false
  has_none k [] h = refl
  has_none k (x ∷ l) h = let i = has_none k l in grind (arith, nat_tests)

  pub has_some : (k : ℕ) (l : List A) → 0 < tally key l k → has key k l ≡ true
  has_some k [] h = absurd (omega arith)
  has_some k (x ∷ l) h = let i = has_some k l in grind (arith, nat_tests)

  -- what entered leaves the others when it is taken out by its key
  pub without-insert : (before : A → A → Bool) (e : A) (l : List A) → tally key l (key e) ≡ 0 → without key (key e) (insert before e l) ≡ l
  without-insert before e [] h = cond-true (eqb (key e) (key e)) [] (e ∷ []) (eq-eqb (key e) (key e) refl)
  without-insert before e (z ∷ l) h = go (cases_Bool (before z e)) (without-insert before e l (omega arith))
    where
      none : eqb (key z) (key e) ≡ false
      none = grind (arith, nat_tests)

      go : (before z e ≡ true) ⊎ (before z e ≡ false) → without key (key e) (insert before e l) ≡ l → without key (key e) (insert before e (z ∷ l)) ≡ z ∷ l
      go (inl a) i =
          ap (without key (key e)) (take_right before e [] z l a)
          ∙ cond-false (eqb (key z) (key e)) (insert before e l) (z ∷ without key (key e) (insert before e l)) none
          ∙ ap (λ m. z ∷ m) i
      go (inr a) i =
          ap (without key (key e)) (take_left before e [] z l a)
          ∙ cond-true (eqb (key e) (key e)) (z ∷ l) (e ∷ without key (key e) (z ∷ l)) (eq-eqb (key e) (key e) refl)
