-- A list with one part for the number of each queue.
use Rattle.std.proofs.Common.{◌≡◌, ℕ, zero, suc, ◌+◌, ◌<◌, ◌≤◌, Bool, true, false, cond, ◌&&◌, eqb, ltb, leb, ◌⊎◌, List, map, length, get_or, set, replicate, Some, None, sum_by, sym, refl, ap, ◌∙◌, subst, inl, inr, arith}
use Rattle.std.specs.List.{range_with_len, AllByRecursion}
use Rattle.std.proofs.lemmas.List.{ext_get_or, length-set, length-replicate, get_or-replicate, get_or-set_same, get_or-set_other}
use Rattle.std.proofs.ByRecursion.{All-from_get_or}
use Rattle.std.proofs.lemmas.List.FromFn.{length-map-range_with_len, get_or-map-range_with_len}
use Rattle.std.proofs.lemmas.List.Sums.{sum_by-cons}
use Rattle.std.proofs.lemmas.Bool.{cases_eq, cond-true, cond-false, eq-eqb, ne_eqb}
use Rattle.std.proofs.lemmas.Bool.Decides.{nat_tests}
use Rattle.elements.specs.declared.entries.Entry.{Entry}
use Rattle.elements.specs.Order.{stamp_of}
use Rattle.stores.specs.SortedLists.{has}
use Rattle.stores.specs.Calls.{queue_with}
use Rattle.records.specs.Cells.{by_queue}

module _ {A : Type 0} where
  pub length_by_queue : (f : ℕ → A) → length (by_queue f) ≡ 32
  unfolding by_queue
  length_by_queue f = length-map-range_with_len f 0 32

  pub get_by_queue : (f : ℕ → A) (q : ℕ) (d : A) → q < 32 → get_or (by_queue f) q d ≡ f q
  unfolding by_queue
  get_by_queue f q d h = get_or-map-range_with_len f 0 32 q q d h (omega arith)

  -- two that differ at most at q
  pub set_by_queue : (f g : ℕ → A) (q : ℕ) (x : A) → q < 32 → g q ≡ x → ((k : ℕ) → (k ≡ q → ⊥) → g k ≡ f k) → by_queue g ≡ set (by_queue f) q x
  set_by_queue f g q x h e o = ext_get_or x (by_queue g) (set (by_queue f) q x) (length_by_queue g ∙ sym (length-set (by_queue f) q x ∙ length_by_queue f)) (λ k l. go k (omega (arith, l, length_by_queue g)) (cases_eq k q))
    where
      go : (k : ℕ) → k < 32 → (k ≡ q) ⊎ (k ≡ q → ⊥) → get_or (by_queue g) k x ≡ get_or (set (by_queue f) q x) k x
      go k l (inl a) = get_by_queue g k x l ∙ ap g a ∙ e ∙ sym (ap (λ (n : ℕ). get_or (set (by_queue f) q x) n x) a ∙ get_or-set_same (by_queue f) q x x (omega (arith, h, length_by_queue f)))
      go k l (inr a) = get_by_queue g k x l ∙ o k a ∙ sym (get_or-set_other (by_queue f) q k x x a ∙ get_by_queue f k x l)

  -- two that differ at most at a and b
  pub set_two_by_queue : (f g : ℕ → A) (a b : ℕ) (x y : A) → a < 32 → b < 32 → (a ≡ b → ⊥) → g a ≡ x → g b ≡ y → ((k : ℕ) → (k ≡ a → ⊥) → (k ≡ b → ⊥) → g k ≡ f k) → by_queue g ≡ set (set (by_queue f) a x) b y
  set_two_by_queue f g a b x y l m ne ea eb o =
      set_by_queue halfway g b y m eb (λ k n. sym (aside k n))
      ∙ ap (λ xs. set xs b y) (set_by_queue f halfway a x l (aside a ne ∙ ea) (λ k n. go k n (cases_eq k b)))
    where
      halfway : ℕ → A
      halfway k = cond (eqb k b) (f b) (g k)

      aside : (k : ℕ) → (k ≡ b → ⊥) → halfway k ≡ g k
      aside k n = cond-false (eqb k b) (f b) (g k) (ne_eqb k b n)

      go : (k : ℕ) → (k ≡ a → ⊥) → (k ≡ b) ⊎ (k ≡ b → ⊥) → halfway k ≡ f k
      go k n (inl e) = cond-true (eqb k b) (f b) (g k) (eq-eqb k b e) ∙ ap f (sym e)
      go k n (inr e) = aside k e ∙ o k n e

  pub all_by_queue : (P : A → Type 0) (f : ℕ → A) → ((k : ℕ) → P (f k)) → AllByRecursion P (by_queue f)
  all_by_queue P f h = All-from_get_or P (by_queue f) (f 0) (λ i l. subst P (sym (get_by_queue f i (f 0) (omega (arith, l, length_by_queue f)))) (h i))

  pub alike_by_queue : (f : ℕ → A) (x : A) → ((k : ℕ) → f k ≡ x) → by_queue f ≡ replicate 32 x
  alike_by_queue f x h = ext_get_or x (by_queue f) (replicate 32 x) (length_by_queue f ∙ sym (length-replicate 32 x)) (λ k l. let b : k < 32 = omega (arith, l, length_by_queue f) in get_by_queue f k x b ∙ h k ∙ sym (get_or-replicate 32 k x x b))

  -- a sum over the queues, when the part of queue a grows by w
  spread : (h : A → ℕ) (f g : ℕ → A) (a w : ℕ) → ((q : ℕ) → h (g q) ≡ cond (eqb a q) w 0 + h (f q)) → (n s : ℕ) → sum_by h (map g (range_with_len s n)) ≡ cond (leb s a && ltb a (s + n)) w 0 + sum_by h (map f (range_with_len s n))
  spread h f g a w e zero s = grind (arith, nat_tests)
  spread h f g a w e (suc n) s =
      let i = spread h f g a w e n (s + 1) in
      let x = sum_by-cons h (g s) (map g (range_with_len (s + 1) n)) in
      let y = sum_by-cons h (f s) (map f (range_with_len (s + 1) n)) in
      let z = e s in
      grind (arith, nat_tests)

  pub sum_by_queue : (h : A → ℕ) (f g : ℕ → A) (a w : ℕ) → a < 32 → ((q : ℕ) → h (g q) ≡ cond (eqb a q) w 0 + h (f q)) → sum_by h (by_queue g) ≡ w + sum_by h (by_queue f)
  unfolding by_queue
  sum_by_queue h f g a w l e = let s = spread h f g a w e 32 0 in grind (arith, nat_tests)

-- which queue has an entry with the stamp k
module _ {T : Type 0} (k : ℕ) (f : ℕ → List (Entry T)) where
  abbrev found_in : ℕ → Bool
  found_in q = has stamp_of k (f q)

  nowhere : (n s : ℕ) → ((q : ℕ) → found_in q ≡ false) → queue_with k (map f (range_with_len s n)) s ≡ None
  nowhere zero s h = refl
  nowhere (suc n) s h =
      cond-false (found_in s) (Some s) (queue_with k (map f (range_with_len (s + 1) n)) (s + 1)) (h s)
      ∙ nowhere n (s + 1) h

  somewhere : (n s q : ℕ) → s ≤ q → q < s + n → found_in q ≡ true → ((j : ℕ) → (j ≡ q → ⊥) → found_in j ≡ false) → queue_with k (map f (range_with_len s n)) s ≡ Some q
  somewhere zero s q a b h o = absurd (omega arith)
  somewhere (suc n) s q a b h o = go (cases_eq s q) (λ c. somewhere n (s + 1) q (omega arith) (omega arith) h o)
    where
      go : (s ≡ q) ⊎ (s ≡ q → ⊥) → ((s ≡ q → ⊥) → queue_with k (map f (range_with_len (s + 1) n)) (s + 1) ≡ Some q) → queue_with k (map f (range_with_len s (suc n))) s ≡ Some q
      go (inl c) r = cond-true (found_in s) (Some s) (queue_with k (map f (range_with_len (s + 1) n)) (s + 1)) (ap found_in c ∙ h) ∙ ap Some c
      go (inr c) r = cond-false (found_in s) (Some s) (queue_with k (map f (range_with_len (s + 1) n)) (s + 1)) (o s c) ∙ r c

  pub queue_none : ((q : ℕ) → has stamp_of k (f q) ≡ false) → queue_with k (by_queue f) 0 ≡ None
  unfolding by_queue
  queue_none h = nowhere 32 0 h

  pub queue_some : (q : ℕ) → q < 32 → has stamp_of k (f q) ≡ true → ((j : ℕ) → (j ≡ q → ⊥) → has stamp_of k (f j) ≡ false) → queue_with k (by_queue f) 0 ≡ Some q
  unfolding by_queue
  queue_some q a h o = somewhere 32 0 q (omega arith) (omega arith) h o
