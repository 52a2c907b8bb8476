-- One list, and the entries of it that are not cancelled.
use Rattle.std.proofs.Common.{◌≡◌, ℕ, suc, ◌+◌, ◌<◌, ◌≤◌, true, false, cond, eqb, ltb, ◌≢◌, ◌⊎◌, List, [], ◌∷◌, length, set, sym, refl, ap, ◌∙◌, inl, inr, arith}
use Rattle.std.specs.List.{AllByRecursion}
use Rattle.std.proofs.ByRecursion.{All-weaker}
use Rattle.std.proofs.lemmas.List.{get_or-set_same, get_or-set_other}
use Rattle.std.proofs.lemmas.Bool.Decides.{nat_tests}
use Rattle.std.proofs.lemmas.Bool.{cond-true, cond-false, cases_Bool, cases_eq, eq-eqb, ne_eqb, both_ways}
use Rattle.elements.specs.declared.entries.Entry.{Entry}
use Rattle.elements.specs.Order.{stamp_of}
use Rattle.stores.specs.SortedLists.{without, tally}
use Rattle.stores.specs.Calls.{front, rest}
use Rattle.cancelled.specs.Cancelled.{queued, kept, cancelled, purged, front_cancelled, Front}

module _ {T : Type 0} where
  pub keep_yes : (marks : List ℕ) (x : Entry T) (xs : List (Entry T)) → queued marks x.stamp ≡ true → kept marks (x ∷ xs) ≡ x ∷ kept marks xs
  unfolding kept
  keep_yes marks x xs h = cond-true (queued marks x.stamp) _ _ h

  pub keep_no : (marks : List ℕ) (x : Entry T) (xs : List (Entry T)) → queued marks x.stamp ≡ false → kept marks (x ∷ xs) ≡ kept marks xs
  unfolding kept
  keep_no marks x xs h = cond-false (queued marks x.stamp) _ _ h

  pub kept_nil : (marks : List ℕ) → kept {T = T} marks [] ≡ []
  unfolding kept
  kept_nil marks = refl

  -- marks that agree on the list keep the same of it
  abbrev pub Alike : List ℕ → List ℕ → List (Entry T) → Type 0
  Alike marks new xs = AllByRecursion (λ (e : Entry T). queued new e.stamp ≡ queued marks e.stamp) xs

  pub kept_alike : (marks new : List ℕ) (xs : List (Entry T)) → Alike marks new xs → kept new xs ≡ kept marks xs
  unfolding kept
  kept_alike marks new [] a = refl
  kept_alike marks new (x ∷ xs) a = rw (a.0, kept_alike marks new xs a.1)

  pub front_alike : (marks new : List ℕ) (xs : List (Entry T)) → Alike marks new xs → Front marks xs → Front new xs
  front_alike marks new [] a f = tt
  front_alike marks new (x ∷ xs) a f = a.0 ∙ f

  others : (s : ℕ) (xs : List (Entry T)) → tally stamp_of xs s ≡ 0 → AllByRecursion (λ (e : Entry T). e.stamp ≢ s) xs
  others s [] h = tt
  others s (x ∷ xs) h = (λ e. let t = eq-eqb x.stamp s e in grind (arith, nat_tests), others s xs (omega arith))

  -- a mark at a stamp that no entry has
  pub alike_other : (marks : List ℕ) (s v : ℕ) (xs : List (Entry T)) → tally stamp_of xs s ≡ 0 → Alike marks (set marks s v) xs
  alike_other marks s v xs h = All-weaker _ _ (λ e ne. ap (ltb 0) (get_or-set_other marks s e.stamp v 0 ne)) xs (others s xs h)

  pub all_kept : (P : Entry T → Type 0) (marks : List ℕ) (xs : List (Entry T)) → AllByRecursion P xs → AllByRecursion P (kept marks xs)
  unfolding kept
  all_kept P marks [] a = tt
  all_kept P marks (x ∷ xs) a =
      elim (queued marks x.stamp) as (λ b. AllByRecursion P (cond b (x ∷ kept marks xs) (kept marks xs))) [ true ↦ (a.0, all_kept P marks xs a.1) | false ↦ all_kept P marks xs a.1 ]

  pub tally_kept : (marks : List ℕ) (xs : List (Entry T)) (k : ℕ) → tally stamp_of (kept marks xs) k ≤ tally stamp_of xs k
  unfolding kept
  tally_kept marks [] k = omega arith
  tally_kept marks (x ∷ xs) k =
      let r = tally_kept marks xs k in
      elim (queued marks x.stamp) as (λ b. tally stamp_of (cond b (x ∷ kept marks xs) (kept marks xs)) k ≤ tally stamp_of (x ∷ xs) k) [ true ↦ omega arith | false ↦ omega arith ]

  -- each entry counts or is cancelled
  pub length_parted : (marks : List ℕ) (xs : List (Entry T)) → length xs ≡ length (kept marks xs) + cancelled marks xs
  unfolding kept cancelled
  length_parted marks [] = omega arith
  length_parted marks (x ∷ xs) =
      let r = length_parted marks xs in
      elim (queued marks x.stamp) as (λ b. suc (length xs) ≡ length (cond b (x ∷ kept marks xs) (kept marks xs)) + (cond b 0 1 + cancelled marks xs)) [ true ↦ omega arith | false ↦ omega arith ]

  -- where the front counts, nothing is hidden by there being nothing that counts
  pub kept_empty : (marks : List ℕ) (xs : List (Entry T)) → Front marks xs → length (kept marks xs) ≡ 0 → length xs ≡ 0
  kept_empty marks [] f h = omega arith
  kept_empty marks (x ∷ xs) f h = let e = ap length (keep_yes marks x xs f) in absurd (omega arith)

  pub front_kept : (marks : List ℕ) (xs : List (Entry T)) → Front marks xs → front (kept marks xs) ≡ front xs
  front_kept marks [] f = ap front (kept_nil marks)
  front_kept marks (x ∷ xs) f = ap front (keep_yes marks x xs f)

  -- the entry with the stamp s is cancelled
  pub kept_cut : (marks : List ℕ) (s : ℕ) (xs : List (Entry T)) → s < length marks → queued marks s ≡ true → tally stamp_of xs s ≤ 1 → kept (set marks s 0) xs ≡ without stamp_of s (kept marks xs)
  kept_cut marks s [] lt on few = kept_nil (set marks s 0) ∙ ap (without stamp_of s) (sym (kept_nil marks))
  kept_cut marks s (x ∷ xs) lt on few = go (cases_eq x.stamp s) (cases_Bool (queued marks x.stamp)) (kept_cut marks s xs lt on (omega arith))
    where
      go : (x.stamp ≡ s) ⊎ (x.stamp ≢ s) → (queued marks x.stamp ≡ true) ⊎ (queued marks x.stamp ≡ false) → kept (set marks s 0) xs ≡ without stamp_of s (kept marks xs) → kept (set marks s 0) (x ∷ xs) ≡ without stamp_of s (kept marks (x ∷ xs))
      go (inl e) (inl p) r =
          let off : queued (set marks s 0) x.stamp ≡ false = ap (queued (set marks s 0)) e ∙ ap (ltb 0) (get_or-set_same marks s 0 0 lt) in
          let t = eq-eqb x.stamp s e in
          let none : tally stamp_of xs s ≡ 0 = grind (arith, nat_tests) in
          keep_no (set marks s 0) x xs off
          ∙ kept_alike marks (set marks s 0) xs (alike_other marks s 0 xs none)
          ∙ sym (cond-true (eqb x.stamp s) (kept marks xs) (x ∷ without stamp_of s (kept marks xs)) t)
          ∙ ap (without stamp_of s) (sym (keep_yes marks x xs p))
      go (inl e) (inr p) r = absurd (both_ways (queued marks s) (sym (ap (queued marks) e) ∙ p) on)
      go (inr ne) (inl p) r =
          let same : queued (set marks s 0) x.stamp ≡ true = ap (ltb 0) (get_or-set_other marks s x.stamp 0 0 ne) ∙ p in
          keep_yes (set marks s 0) x xs same
          ∙ ap (λ l. x ∷ l) r
          ∙ sym (cond-false (eqb x.stamp s) (kept marks xs) (x ∷ without stamp_of s (kept marks xs)) (ne_eqb x.stamp s ne))
          ∙ ap (without stamp_of s) (sym (keep_yes marks x xs p))
      go (inr ne) (inr p) r =
          let same : queued (set marks s 0) x.stamp ≡ false = ap (ltb 0) (get_or-set_other marks s x.stamp 0 0 ne) ∙ p in
          keep_no (set marks s 0) x xs same ∙ r ∙ ap (without stamp_of s) (sym (keep_no marks x xs p))

  -- one entry less
  pub tally-without : (s : ℕ) (xs : List (Entry T)) (k : ℕ) → 1 ≤ tally stamp_of xs s → tally stamp_of xs k ≡ cond (eqb s k) 1 0 + tally stamp_of (without stamp_of s xs) k
  tally-without s [] k h = absurd (omega arith)
  tally-without s (x ∷ xs) k h = go (cases_eq x.stamp s) (tally-without s xs k)
    where
      go : (x.stamp ≡ s) ⊎ (x.stamp ≢ s) → (1 ≤ tally stamp_of xs s → tally stamp_of xs k ≡ cond (eqb s k) 1 0 + tally stamp_of (without stamp_of s xs) k) → tally stamp_of (x ∷ xs) k ≡ cond (eqb s k) 1 0 + tally stamp_of (without stamp_of s (x ∷ xs)) k
      go (inl e) r = rw (cond-true (eqb x.stamp s) xs (x ∷ without stamp_of s xs) (eq-eqb x.stamp s e), e)
      go (inr ne) r =
          let t = ne_eqb x.stamp s ne in
          let more : 1 ≤ tally stamp_of xs s = grind (arith, nat_tests) in
          rw (cond-false (eqb x.stamp s) xs (x ∷ without stamp_of s xs) t) (omega (arith, r more))

  -- the cancelled ones at the front
  pub kept_purged : (marks : List ℕ) (xs : List (Entry T)) → kept marks (purged marks xs) ≡ kept marks xs
  unfolding purged
  kept_purged marks [] = refl
  kept_purged marks (x ∷ xs) = elim (cases_Bool (queued marks x.stamp)) [ inl p ↦ rw p | inr p ↦ rw p (kept_purged marks xs ∙ sym (keep_no marks x xs p)) ]

  pub front_purged : (marks : List ℕ) (xs : List (Entry T)) → Front marks (purged marks xs)
  unfolding purged
  front_purged marks [] = tt
  front_purged marks (x ∷ xs) = elim (cases_Bool (queued marks x.stamp)) [ inl p ↦ rw p p | inr p ↦ rw p (front_purged marks xs) ]

  pub length_purged : (marks : List ℕ) (xs : List (Entry T)) → length (purged marks xs) ≤ length xs
  unfolding purged
  length_purged marks [] = omega arith
  length_purged marks (x ∷ xs) = elim (cases_Bool (queued marks x.stamp)) [ inl p ↦ rw p (omega arith) | inr p ↦ rw p (omega (arith, length_purged marks xs)) ]

  -- a cancelled front leaves: the purging goes on with the others
  pub purged_rest : (marks : List ℕ) (xs : List (Entry T)) → front_cancelled marks xs ≡ true → (purged marks (rest xs) ≡ purged marks xs) × (length xs ≡ suc (length (rest xs)))
  unfolding purged
  purged_rest marks [] h = (refl, absurd (grind (arith, nat_tests)))
  purged_rest marks (x ∷ xs) h = let off : queued marks x.stamp ≡ false = grind (arith, nat_tests) in (sym (cond-false (queued marks x.stamp) _ _ off), refl)

  pub purged_all : (marks : List ℕ) (xs : List (Entry T)) → front_cancelled marks xs ≡ false → purged marks xs ≡ xs
  unfolding purged
  purged_all marks [] h = refl
  purged_all marks (x ∷ xs) h = let on : queued marks x.stamp ≡ true = grind (arith, nat_tests) in cond-true (queued marks x.stamp) _ _ on
