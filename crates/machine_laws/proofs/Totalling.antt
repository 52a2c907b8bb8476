-- What the calls of a store do to the sum of something over its entries.
use Rattle.std.proofs.Common.{◌≡◌, ℕ, zero, suc, ◌+◌, ◌<◌, ◌≤◌, Bool, true, false, cond, eqb, ◌⊎◌, List, [], ◌∷◌, length, get_or, set, Some, None, Ok, sum_by, Option, sym, refl, ap, ◌∙◌, subst, inl, inr, add-zero, zero-add, arith}
use Rattle.std.specs.List.{AllByRecursion}
use Rattle.std.proofs.lemmas.List.{length-set, get_or-set_other}
use Rattle.std.proofs.lemmas.List.Sums.{sum_by-cons}
use Rattle.std.proofs.lemmas.Bool.{cases_Bool, cond-true, cond-false, eqb-true, eq-eqb, ne_eqb}
use Rattle.elements.specs.declared.entries.Entry.{Entry}
use Rattle.elements.specs.Order.{precedes_by, stamp_of}
use Rattle.stores.specs.SortedLists.{merge, insert, has, without}
use Rattle.stores.specs.Meaning.{State, list_of}
use Rattle.stores.specs.Calls.{with_list, put_after, take_after, meld_after, cancel_after, front, rest, found, queue_with}
use Rattle.stores.proofs.Counting.{sum_merge, found_there}
use Rattle.machine_laws.specs.Entries.{total_from, total}

module _ {T : Type 0} where
  -- 1 for the entry with the stamp k
  abbrev pub stamp_is : ℕ → ℕ → Entry T → ℕ
  stamp_is k q e = cond (eqb e.stamp k) 1 0

  module _ (f : ℕ → Entry T → ℕ) where
    -- one list is another
    total_set : (o : ℕ) (xss : List (List (Entry T))) (q : ℕ) (ys : List (Entry T)) → q < length xss → total_from f o (set xss q ys) + sum_by (f (o + q)) (get_or xss q []) ≡ total_from f o xss + sum_by (f (o + q)) ys
    total_set o [] q ys lt = absurd (omega arith)
    total_set o (xs ∷ xss) zero ys lt = rw (add-zero o) (omega arith)
    total_set o (xs ∷ xss) (suc q) ys lt =
        let e : o + suc q ≡ (o + 1) + q = omega arith in
        rw e (omega (arith, total_set (o + 1) xss q ys (omega arith)))

    pub total_with : (s : State T) (q : ℕ) (ys : List (Entry T)) → q < length s.lists → total f (with_list s q ys) + sum_by (f q) (list_of s q) ≡ total f s + sum_by (f q) ys
    total_with s q ys lt = subst (λ n. total f (with_list s q ys) + sum_by (f n) (list_of s q) ≡ total f s + sum_by (f n) ys) (zero-add q) (total_set 0 s.lists q ys lt)

    pub total_put : (le : T → T → Bool) (s : State T) (q : ℕ) (x : T) (n : ℕ) → q < length s.lists → total f (put_after le s q x (Ok n)) ≡ total f s + f q (record { element = x; stamp = n })
    total_put le s q x n lt =
        let e : Entry T = record { element = x; stamp = n } in
        omega (arith, total_with s q (insert (precedes_by le) e (list_of s q)) lt, sum_merge (precedes_by le) (f q) (e ∷ []) (list_of s q))

    pub sum_front : (q : ℕ) (xs : List (Entry T)) (e : Entry T) → front xs ≡ Some e → sum_by (f q) xs ≡ f q e + sum_by (f q) (rest xs)
    sum_front q [] e p = absurd (let z : ◌≡◌ {A = ℕ} 0 1 = cc in omega arith)
    sum_front q (x ∷ xs) e p = let same : x ≡ e = cc in subst (λ y. sum_by (f q) (x ∷ xs) ≡ f q y + sum_by (f q) xs) same (sum_by-cons (f q) x xs)

    pub total_meld : (le : T → T → Bool) (s : State T) (a b n : ℕ) → a < length s.lists → b < length s.lists → (a ≡ b → ⊥) → total f (meld_after le s a b (Ok n)) + sum_by (f b) (list_of s b) ≡ total f s + sum_by (f a) (list_of s b)
    total_meld le s a b n la lb ne =
        let joined = merge (precedes_by le) (list_of s a) (list_of s b) in
        let t = with_list s a joined in
        omega (arith, total_with s a joined la, total_with t b [] (omega (arith, length-set s.lists a joined)), sum_merge (precedes_by le) (f a) (list_of s a) (list_of s b), ap (sum_by (f b)) (get_or-set_other s.lists a b joined [] (λ e. ne (sym e))))

    sum_le : (g : ℕ → Entry T → ℕ) → ((q : ℕ) (e : Entry T) → f q e ≤ g q e) → (q : ℕ) (xs : List (Entry T)) → sum_by (f q) xs ≤ sum_by (g q) xs
    sum_le g h q [] = omega arith
    sum_le g h q (x ∷ xs) = omega (arith, h q x, sum_le g h q xs, sum_by-cons (f q) x xs, sum_by-cons (g q) x xs)

    le_from : (g : ℕ → Entry T → ℕ) → ((q : ℕ) (e : Entry T) → f q e ≤ g q e) → (q : ℕ) (xss : List (List (Entry T))) → total_from f q xss ≤ total_from g q xss
    le_from g h q [] = omega arith
    le_from g h q (xs ∷ xss) = omega (arith, sum_le g h q xs, le_from g h (q + 1) xss)

    pub total_le : (g : ℕ → Entry T → ℕ) → ((q : ℕ) (e : Entry T) → f q e ≤ g q e) → (s : State T) → total f s ≤ total g s
    total_le g h s = le_from g h 0 s.lists

    get_from : (o : ℕ) (xss : List (List (Entry T))) (q : ℕ) → sum_by (f (o + q)) (get_or xss q []) ≤ total_from f o xss
    get_from o [] q = omega arith
    get_from o (xs ∷ xss) zero = rw (add-zero o) (omega arith)
    get_from o (xs ∷ xss) (suc q) =
        let e : o + suc q ≡ (o + 1) + q = omega arith in
        rw e (omega (arith, get_from (o + 1) xss q))

    -- a queue has no more than all have
    pub total_get : (s : State T) (q : ℕ) → sum_by (f q) (list_of s q) ≤ total f s
    total_get s q = subst (λ n. sum_by (f n) (list_of s q) ≤ total f s) (zero-add q) (get_from 0 s.lists q)

  within : (xss : List (List (Entry T))) (q : ℕ) (e : Entry T) → front (get_or xss q []) ≡ Some e → q < length xss
  within [] q e h = absurd (let z : ◌≡◌ {A = ℕ} 0 1 = cc in omega arith)
  within (xs ∷ xss) zero e h = omega arith
  within (xs ∷ xss) (suc q) e h = omega (arith, within xss q e h)

  pub total_take : (f : ℕ → Entry T → ℕ) (s : State T) (q : ℕ) (e : Entry T) → front (list_of s q) ≡ Some e → total f (take_after s q (Ok (Some e))) + f q e ≡ total f s
  total_take f s q e h = omega (arith, total_with f s q (rest (list_of s q)) (within s.lists q e h), sum_front f q (list_of s q) e h)

  -- the entry that leaves by its stamp
  pub record Leaves (s t : State T) (k : ℕ) : Type 0 where
    pub entry : Entry T
    pub queue : ℕ
    pub stamp : entry.stamp ≡ k
    pub total : (f : ℕ → Entry T → ℕ) → total f t + f queue entry ≡ total f s

  record Removed (k : ℕ) (xs : List (Entry T)) : Type 0 where
    entry : Entry T
    stamp : entry.stamp ≡ k
    sum : (f : Entry T → ℕ) → sum_by f (without stamp_of k xs) + f entry ≡ sum_by f xs

  removed : (k : ℕ) (xs : List (Entry T)) → has stamp_of k xs ≡ true → Removed k xs
  removed k [] h = absurd (let z : ◌≡◌ {A = ℕ} 0 1 = cc in omega arith)
  removed k (x ∷ xs) h = go (cases_Bool (eqb x.stamp k)) (removed k xs)
    where
      go : (eqb x.stamp k ≡ true) ⊎ (eqb x.stamp k ≡ false) → (has stamp_of k xs ≡ true → Removed k xs) → Removed k (x ∷ xs)
      go (inl e) ih = record { entry = x; stamp = eqb-true _ _ e; sum = λ f. ap (λ ys. sum_by f ys + f x) (cond-true (eqb x.stamp k) xs (x ∷ without stamp_of k xs) e) ∙ omega (arith, sum_by-cons f x xs) }
      go (inr e) ih =
          let r = ih (sym (cond-false (eqb x.stamp k) true (has stamp_of k xs) e) ∙ h) in
          record { entry = r.entry; stamp = r.stamp; sum = λ f. ap (λ ys. sum_by f ys + f r.entry) (cond-false (eqb x.stamp k) xs (x ∷ without stamp_of k xs) e) ∙ omega (arith, r.sum f, sum_by-cons f x xs, sum_by-cons f x (without stamp_of k xs)) }

  -- no queue has the stamp
  none_in : (k q : ℕ) (xs : List (Entry T)) → has stamp_of k xs ≡ false → sum_by (stamp_is k q) xs ≡ 0
  none_in k q [] h = refl
  none_in k q (x ∷ xs) h = go (cases_Bool (eqb x.stamp k)) (none_in k q xs)
    where
      go : (eqb x.stamp k ≡ true) ⊎ (eqb x.stamp k ≡ false) → (has stamp_of k xs ≡ false → sum_by (stamp_is k q) xs ≡ 0) → sum_by (stamp_is k q) (x ∷ xs) ≡ 0
      go (inl e) ih = absurd (let y : true ≡ false = sym (cond-true (eqb x.stamp k) true (has stamp_of k xs) e) ∙ h in let z : ◌≡◌ {A = ℕ} 0 1 = cc in omega arith)
      go (inr e) ih = omega (arith, sum_by-cons (stamp_is k q) x xs, cond-false {A = ℕ} (eqb x.stamp k) 1 0 e, ih (sym (cond-false (eqb x.stamp k) true (has stamp_of k xs) e) ∙ h))

  none_from : (k o : ℕ) (xss : List (List (Entry T))) → queue_with k xss o ≡ None → total_from (stamp_is k) o xss ≡ 0
  none_from k o [] h = refl
  none_from k o (xs ∷ xss) h = go (cases_Bool (has stamp_of k xs)) (none_from k (o + 1) xss)
    where
      go : (has stamp_of k xs ≡ true) ⊎ (has stamp_of k xs ≡ false) → (queue_with k xss (o + 1) ≡ None → total_from (stamp_is k) (o + 1) xss ≡ 0) → total_from (stamp_is k) o (xs ∷ xss) ≡ 0
      go (inl e) ih = absurd (let y : Some o ≡ None = sym (cond-true (has stamp_of k xs) (Some o) (queue_with k xss (o + 1)) e) ∙ h in let z : ◌≡◌ {A = ℕ} 0 1 = cc in omega arith)
      go (inr e) ih = omega (arith, none_in k o xs e, ih (sym (cond-false (has stamp_of k xs) (Some o) (queue_with k xss (o + 1)) e) ∙ h))

  pub found_leaves : (s : State T) (k q : ℕ) → queue_with k s.lists 0 ≡ Some q → Leaves s (cancel_after s k (Ok q)) k
  found_leaves s k q e =
      let p = found_there k s.lists 0 q e in
      let at : q ≡ p.0 = omega (arith, p.1) in
      let r = removed k (list_of s p.0) p.3 in
      subst (λ i. Leaves s (cancel_after s k (Ok i)) k) (sym at) (record {
        entry = r.entry;
        queue = p.0;
        stamp = r.stamp;
        total = λ f. omega (arith, total_with f s p.0 (without stamp_of k (list_of s p.0)) p.2, r.sum (f p.0));
      })

  -- a stamp that is there is cancelled
  pub cancel_leaves : (s : State T) (k : ℕ) → 1 ≤ total (stamp_is k) s → Leaves s (cancel_after s k (found 0 (queue_with k s.lists 0))) k
  cancel_leaves s k h = go (queue_with k s.lists 0) refl
    where
      go : (o : Option ℕ) → queue_with k s.lists 0 ≡ o → Leaves s (cancel_after s k (found 0 o)) k
      go None e = absurd (omega (arith, h, none_from k 0 s.lists e))
      go (Some q) e = found_leaves s k q e

  pub sum_none : (f : Entry T → ℕ) → ((e : Entry T) → f e ≡ 0) → (xs : List (Entry T)) → sum_by f xs ≡ 0
  sum_none f h [] = refl
  sum_none f h (x ∷ xs) = omega (arith, h x, sum_none f h xs, sum_by-cons f x xs)

  pub sum_alike : (f g : Entry T → ℕ) → ((e : Entry T) → f e ≡ g e) → (xs : List (Entry T)) → sum_by f xs ≡ sum_by g xs
  sum_alike f g h [] = refl
  sum_alike f g h (x ∷ xs) = omega (arith, h x, sum_alike f g h xs, sum_by-cons f x xs, sum_by-cons g x xs)

  abbrev pub only_in : ℕ → (Entry T → ℕ) → ℕ → Entry T → ℕ
  only_in k f q e = cond (eqb q k) (f e) 0

  only_above : (k : ℕ) (f : Entry T → ℕ) (o : ℕ) (xss : List (List (Entry T))) → k < o → total_from (only_in k f) o xss ≡ 0
  only_above k f o [] lt = refl
  only_above k f o (xs ∷ xss) lt = omega (arith, sum_none (only_in k f o) (λ e. cond-false (eqb o k) (f e) 0 (ne_eqb o k (λ p. omega arith))) xs, only_above k f (o + 1) xss (omega arith))

  only_from : (k : ℕ) (f : Entry T → ℕ) (d o : ℕ) (xss : List (List (Entry T))) → k ≡ o + d → total_from (only_in k f) o xss ≡ sum_by f (get_or xss d [])
  only_from k f d o [] p = refl
  only_from k f zero o (xs ∷ xss) p = omega (arith, sum_alike (only_in k f o) f (λ e. cond-true (eqb o k) (f e) 0 (eq-eqb o k (omega arith))) xs, only_above k f (o + 1) xss (omega arith))
  only_from k f (suc d) o (xs ∷ xss) p = omega (arith, sum_none (only_in k f o) (λ e. cond-false (eqb o k) (f e) 0 (ne_eqb o k (λ q. omega arith))) xs, only_from k f d (o + 1) xss (omega arith))

  -- what counts in queue k alone
  pub only_at : (k : ℕ) (f : Entry T → ℕ) (s : State T) → total (only_in k f) s ≡ sum_by f (list_of s k)
  only_at k f s = only_from k f k 0 s.lists (omega arith)

  -- what counts is somewhere in the list
  pub find : (P : Entry T → Type 0) (f : Entry T → ℕ) (xs : List (Entry T)) → AllByRecursion P xs → 1 ≤ sum_by f xs → (y : Entry T) × P y × (1 ≤ f y)
  find P f [] h le = absurd (omega arith)
  find P f (x ∷ xs) h le = go (f x) refl (find P f xs h.1)
    where
      go : (n : ℕ) → f x ≡ n → (1 ≤ sum_by f xs → (y : Entry T) × P y × (1 ≤ f y)) → (y : Entry T) × P y × (1 ≤ f y)
      go zero e ih = ih (omega (arith, le, e, sum_by-cons f x xs))
      go (suc n) e ih = (x, h.0, omega (arith, e))
