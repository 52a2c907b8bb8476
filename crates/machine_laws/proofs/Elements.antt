-- Elements of lists: one that is another, and what holds of all of them.
use Rattle.std.proofs.Common.{◌≡◌, ℕ, zero, suc, Bool, true, false, cond, eqb, List, [], ◌∷◌, get_or, set, replicate, refl}
use Rattle.std.specs.List.{AllByRecursion}
use Rattle.stores.specs.SortedLists.{merge, merge_at, insert, without}

-- what holds of the new element, and of an old one, holds of the one that is there
pub set-has : {A : Type 0} (P : A → Type 0) (xs : List A) (i j : ℕ) (a d : A) → P a → P (get_or xs j d) → P (get_or (set xs i a) j d)
set-has P [] i j a d p q = q
set-has P (x ∷ xs) zero zero a d p q = p
set-has P (x ∷ xs) zero (suc j) a d p q = q
set-has P (x ∷ xs) (suc i) zero a d p q = q
set-has P (x ∷ xs) (suc i) (suc j) a d p q = set-has P xs i j a d p q

pub replicate-has : {A : Type 0} (P : A → Type 0) (n i : ℕ) (a : A) → P a → P (get_or (replicate n a) i a)
replicate-has P zero i a p = p
replicate-has P (suc n) zero a p = p
replicate-has P (suc n) (suc i) a p = replicate-has P n i a p

-- the new element is like the old one in what f gives
pub set_alike : {A B : Type 0} (f : A → B) (xs : List A) (i j : ℕ) (a d : A) → f a ≡ f (get_or xs i d) → f (get_or (set xs i a) j d) ≡ f (get_or xs j d)
set_alike f [] i j a d p = refl
set_alike f (x ∷ xs) zero zero a d p = p
set_alike f (x ∷ xs) zero (suc j) a d p = refl
set_alike f (x ∷ xs) (suc i) zero a d p = refl
set_alike f (x ∷ xs) (suc i) (suc j) a d p = set_alike f xs i j a d p

pub all_get : {A : Type 0} (P : A → Type 0) (xs : List A) (q : ℕ) (d : A) → AllByRecursion P xs → P d → P (get_or xs q d)
all_get P [] q d h z = z
all_get P (x ∷ xs) zero d h z = h.0
all_get P (x ∷ xs) (suc q) d h z = all_get P xs q d h.1 z

module _ {A : Type 0} (P : A → Type 0) where
  either : (b : Bool) (xs ys : List A) → AllByRecursion P xs → AllByRecursion P ys → AllByRecursion P (elim b [ true ↦ xs | false ↦ ys ])
  either true xs ys p q = p
  either false xs ys p q = q

  merge_2 : (before : A → A → Bool) (x : A) (others : List A → List A) → P x → ((us : List A) → AllByRecursion P us → AllByRecursion P (others us)) → (ys : List A) → AllByRecursion P ys → AllByRecursion P (merge_at before x others ys)
  merge_2 before x others p ih [] h = (p, ih [] tt)
  merge_2 before x others p ih (y ∷ ys) h = either (before y x) (y ∷ merge_at before x others ys) (x ∷ others (y ∷ ys)) (h.0, merge_2 before x others p ih ys h.1) (p, ih (y ∷ ys) h)

  pub all_merge : (before : A → A → Bool) (xs ys : List A) → AllByRecursion P xs → AllByRecursion P ys → AllByRecursion P (merge before xs ys)
  all_merge before [] ys p h = h
  all_merge before (x ∷ xs) ys p h = merge_2 before x (merge before xs) p.0 (λ us u. all_merge before xs us p.1 u) ys h

  pub all_insert : (before : A → A → Bool) (x : A) (ys : List A) → P x → AllByRecursion P ys → AllByRecursion P (insert before x ys)
  all_insert before x ys p h = all_merge before (x ∷ []) ys (p, tt) h

  pub all_without : (key : A → ℕ) (k : ℕ) (xs : List A) → AllByRecursion P xs → AllByRecursion P (without key k xs)
  all_without key k [] h = tt
  all_without key k (x ∷ xs) h = elim (eqb (key x) k) as (λ b. AllByRecursion P (cond b xs (x ∷ without key k xs))) [ true ↦ h.1 | false ↦ (h.0, all_without key k xs h.1) ]
