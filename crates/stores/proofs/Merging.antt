-- Laws of the joining of lists, over any test `before`.
use Rattle.std.proofs.Common.{◌≡◌, ℕ, ◌+◌, ◌≤◌, Bool, true, false, ◌⊎◌, List, [], ◌∷◌, sym, refl, ap, ◌∙◌, inl, inr, arith}
use Rattle.std.proofs.lemmas.Bool.{cases_Bool}
use Rattle.std.proofs.lemmas.Bool.Decides.{nat_tests}
use Rattle.elements.specs.Order.{Strict}
use Rattle.stores.specs.SortedLists.{merge, tally, Leads, Sorted}

module _ {A : Type 0} (before : A → A → Bool) where
  pub take_left : (x : A) (xs : List A) (y : A) (ys : List A) → before y x ≡ false → merge before (x ∷ xs) (y ∷ ys) ≡ x ∷ merge before xs (y ∷ ys)
  take_left x xs y ys h = ap (λ b. elim b as (λ _. List A) [ true ↦ y ∷ merge before (x ∷ xs) ys | false ↦ x ∷ merge before xs (y ∷ ys) ]) h

  pub take_right : (x : A) (xs : List A) (y : A) (ys : List A) → before y x ≡ true → merge before (x ∷ xs) (y ∷ ys) ≡ y ∷ merge before (x ∷ xs) ys
  take_right x xs y ys h = ap (λ b. elim b as (λ _. List A) [ true ↦ y ∷ merge before (x ∷ xs) ys | false ↦ x ∷ merge before xs (y ∷ ys) ]) h

  pub merge-nil : (xs : List A) → merge before xs [] ≡ xs
  merge-nil [] = refl
  merge-nil (x ∷ xs) = ap (λ l. x ∷ l) (merge-nil xs)

  module _ (key : A → ℕ) (law : Strict before key) where
    assoc_3 : (x : A) (xs : List A) (y : A) (ys : List A) → ((us vs : List A) → merge before (merge before xs us) vs ≡ merge before xs (merge before us vs)) → ((vs : List A) → merge before (merge before (x ∷ xs) ys) vs ≡ merge before (x ∷ xs) (merge before ys vs)) → (zs : List A) → merge before (merge before (x ∷ xs) (y ∷ ys)) zs ≡ merge before (x ∷ xs) (merge before (y ∷ ys) zs)
    assoc_3 x xs y ys ih ih' [] = merge-nil (merge before (x ∷ xs) (y ∷ ys)) ∙ ap (merge before (x ∷ xs)) (sym (merge-nil (y ∷ ys)))
    assoc_3 x xs y ys ih ih' (z ∷ zs) = go (cases_Bool (before y x)) (cases_Bool (before z y)) (cases_Bool (before z x)) (assoc_3 x xs y ys ih ih' zs)
      where
        go : (before y x ≡ true) ⊎ (before y x ≡ false) → (before z y ≡ true) ⊎ (before z y ≡ false) → (before z x ≡ true) ⊎ (before z x ≡ false) → merge before (merge before (x ∷ xs) (y ∷ ys)) zs ≡ merge before (x ∷ xs) (merge before (y ∷ ys) zs) → merge before (merge before (x ∷ xs) (y ∷ ys)) (z ∷ zs) ≡ merge before (x ∷ xs) (merge before (y ∷ ys) (z ∷ zs))
        go (inl a) (inl b) c r =
            let d = law.transitive z y x b a in
            let e₁ = take_right x xs y ys a in
            let e₂ = take_right y ys z zs b in
            let e₃ = take_right y (merge before (x ∷ xs) ys) z zs b in
            let e₄ = take_right x xs z (merge before (y ∷ ys) zs) d in
            cc
        go (inl a) (inr b) c r =
            let e₁ = take_right x xs y ys a in
            let e₂ = take_left y ys z zs b in
            let e₃ = take_left y (merge before (x ∷ xs) ys) z zs b in
            let e₄ = take_right x xs y (merge before ys (z ∷ zs)) a in
            let e₅ = ih' (z ∷ zs) in
            cc
        go (inr a) (inl b) (inl d) r =
            let e₁ = take_left x xs y ys a in
            let e₂ = take_right y ys z zs b in
            let e₃ = take_right x (merge before xs (y ∷ ys)) z zs d in
            let e₄ = take_right x xs z (merge before (y ∷ ys) zs) d in
            cc
        go (inr a) (inl b) (inr d) r =
            let e₁ = take_left x xs y ys a in
            let e₂ = take_right y ys z zs b in
            let e₃ = take_left x (merge before xs (y ∷ ys)) z zs d in
            let e₄ = take_left x xs z (merge before (y ∷ ys) zs) d in
            let e₅ = ih (y ∷ ys) (z ∷ zs) in
            cc
        go (inr a) (inr b) c r =
            let d = law.negatively_transitive z y x b a in
            let e₁ = take_left x xs y ys a in
            let e₂ = take_left y ys z zs b in
            let e₃ = take_left x (merge before xs (y ∷ ys)) z zs d in
            let e₄ = take_left x xs y (merge before ys (z ∷ zs)) a in
            let e₅ = ih (y ∷ ys) (z ∷ zs) in
            cc

    assoc_2 : (x : A) (xs : List A) → ((us vs : List A) → merge before (merge before xs us) vs ≡ merge before xs (merge before us vs)) → (ys zs : List A) → merge before (merge before (x ∷ xs) ys) zs ≡ merge before (x ∷ xs) (merge before ys zs)
    assoc_2 x xs ih [] zs = ap (λ l. merge before l zs) (merge-nil (x ∷ xs))
    assoc_2 x xs ih (y ∷ ys) zs = assoc_3 x xs y ys ih (assoc_2 x xs ih ys) zs

    pub merge_assoc : (xs ys zs : List A) → merge before (merge before xs ys) zs ≡ merge before xs (merge before ys zs)
    merge_assoc [] ys zs = refl
    merge_assoc (x ∷ xs) ys zs = assoc_2 x xs (merge_assoc xs) ys zs

    comm_2 : (x : A) (xs : List A) → ((us : List A) → ((k : ℕ) → tally key xs k + tally key us k ≤ 1) → merge before xs us ≡ merge before us xs) → (ys : List A) → ((k : ℕ) → tally key (x ∷ xs) k + tally key ys k ≤ 1) → merge before (x ∷ xs) ys ≡ merge before ys (x ∷ xs)
    comm_2 x xs ih [] h = merge-nil (x ∷ xs)
    comm_2 x xs ih (y ∷ ys) h = go (cases_Bool (before y x)) (comm_2 x xs ih ys (λ k. omega (arith, h k))) (ih (y ∷ ys) (λ k. omega (arith, h k)))
      where
        ne : key x ≡ key y → ⊥
        ne e = grind (arith, nat_tests, h (key y), e)

        go : (before y x ≡ true) ⊎ (before y x ≡ false) → merge before (x ∷ xs) ys ≡ merge before ys (x ∷ xs) → merge before xs (y ∷ ys) ≡ merge before (y ∷ ys) xs → merge before (x ∷ xs) (y ∷ ys) ≡ merge before (y ∷ ys) (x ∷ xs)
        go (inl a) r s =
            let e₁ = take_right x xs y ys a in
            let e₂ = take_left y ys x xs (law.asymmetric y x a) in
            cc
        go (inr a) r s =
            let e₁ = take_left x xs y ys a in
            let e₂ = take_right y ys x xs (law.total y x (λ e. ne (sym e)) a) in
            cc

    -- with no key in both lists, their order does not matter
    pub merge_comm : (xs ys : List A) → ((k : ℕ) → tally key xs k + tally key ys k ≤ 1) → merge before xs ys ≡ merge before ys xs
    merge_comm [] ys h = sym (merge-nil ys)
    merge_comm (x ∷ xs) ys h = comm_2 x xs (merge_comm xs) ys h

  module _ (key : A → ℕ) where
    tally_2 : (x : A) (xs : List A) (k : ℕ) → ((us : List A) → tally key (merge before xs us) k ≡ tally key xs k + tally key us k) → (ys : List A) → tally key (merge before (x ∷ xs) ys) k ≡ tally key (x ∷ xs) k + tally key ys k
    tally_2 x xs k ih [] = omega (arith, ih [])
    tally_2 x xs k ih (y ∷ ys) = go (cases_Bool (before y x)) (tally_2 x xs k ih ys) (ih (y ∷ ys))
      where
        go : (before y x ≡ true) ⊎ (before y x ≡ false) → tally key (merge before (x ∷ xs) ys) k ≡ tally key (x ∷ xs) k + tally key ys k → tally key (merge before xs (y ∷ ys)) k ≡ tally key xs k + tally key (y ∷ ys) k → tally key (merge before (x ∷ xs) (y ∷ ys)) k ≡ tally key (x ∷ xs) k + tally key (y ∷ ys) k
        go (inl a) r s = rw (take_right x xs y ys a) (omega arith)
        go (inr a) r s = rw (take_left x xs y ys a) (omega arith)

    pub tally-merge : (xs ys : List A) (k : ℕ) → tally key (merge before xs ys) k ≡ tally key xs k + tally key ys k
    tally-merge [] ys k = omega arith
    tally-merge (x ∷ xs) ys k = tally_2 x xs k (λ us. tally-merge xs us k) ys

  pub leads_merge : (w : A) (xs ys : List A) → Leads before w xs → Leads before w ys → Leads before w (merge before xs ys)
  leads_merge w [] ys p q = q
  leads_merge w (x ∷ xs) [] p q = p
  leads_merge w (x ∷ xs) (y ∷ ys) p q = elim (before y x) as (λ b. Leads before w (elim b as (λ _. List A) [ true ↦ y ∷ merge before (x ∷ xs) ys | false ↦ x ∷ merge before xs (y ∷ ys) ])) [ true ↦ q | false ↦ p ]

  module _ (key : A → ℕ) (law : Strict before key) where
    sorted_2 : (x : A) (xs : List A) → Sorted before (x ∷ xs) → ((us : List A) → ((k : ℕ) → tally key xs k + tally key us k ≤ 1) → Sorted before us → Sorted before (merge before xs us)) → (ys : List A) → ((k : ℕ) → tally key (x ∷ xs) k + tally key ys k ≤ 1) → Sorted before ys → Sorted before (merge before (x ∷ xs) ys)
    sorted_2 x xs p ih [] h q = rw (merge-nil xs) p
    sorted_2 x xs p ih (y ∷ ys) h q = go (cases_Bool (before y x)) (sorted_2 x xs p ih ys (λ k. omega (arith, h k)) q.1) (ih (y ∷ ys) (λ k. omega (arith, h k)) q)
      where
        ne : key x ≡ key y → ⊥
        ne e = grind (arith, nat_tests, h (key y), e)

        go : (before y x ≡ true) ⊎ (before y x ≡ false) → Sorted before (merge before (x ∷ xs) ys) → Sorted before (merge before xs (y ∷ ys)) → Sorted before (merge before (x ∷ xs) (y ∷ ys))
        go (inl a) r s = rw (take_right x xs y ys a) (leads_merge y (x ∷ xs) ys a q.0, r)
        go (inr a) r s = rw (take_left x xs y ys a) (leads_merge x xs (y ∷ ys) p.0 (law.total y x (λ e. ne (sym e)) a), s)

    pub sorted_merge : (xs ys : List A) → ((k : ℕ) → tally key xs k + tally key ys k ≤ 1) → Sorted before xs → Sorted before ys → Sorted before (merge before xs ys)
    sorted_merge [] ys h p q = q
    sorted_merge (x ∷ xs) ys h p q = sorted_2 x xs p (λ us h' u. sorted_merge xs us h' p.1 u) ys h q

    -- what comes before the front of ys stays in front
    pub merge_first : (x : A) (xs ys : List A) → Leads before x ys → merge before (x ∷ xs) ys ≡ x ∷ merge before xs ys
    merge_first x xs [] h = refl
    merge_first x xs (y ∷ ys) h = take_left x xs y ys (law.asymmetric x y h)

    -- four lists, the middle two changed over
    pub merge_four : (a b c d : List A) → ((k : ℕ) → tally key b k + tally key c k ≤ 1) → merge before (merge before a b) (merge before c d) ≡ merge before (merge before a c) (merge before b d)
    merge_four a b c d h =
        merge_assoc key law a b (merge before c d)
        ∙ ap (merge before a) (sym (merge_assoc key law b c d) ∙ ap (λ x. merge before x d) (merge_comm key law b c h) ∙ merge_assoc key law c b d)
        ∙ sym (merge_assoc key law a c (merge before b d))
