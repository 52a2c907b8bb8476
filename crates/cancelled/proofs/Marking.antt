-- All queues: what the marks tell of the entries in them.
use Rattle.std.proofs.Common.{◌≡◌, ℕ, zero, suc, ◌+◌, ◌<◌, ◌≤◌, cond, eqb, ◌≢◌, ◌⊎◌, List, [], ◌∷◌, map, length, get_or, set, sum_by, sym, refl, ap, ◌∙◌, inl, inr, arith}
use Rattle.std.specs.List.{AllByRecursion}
use Rattle.std.proofs.lemmas.List.{length-set, get_or-set_same, get_or-set_other}
use Rattle.std.proofs.lemmas.List.Sums.{sum_by-cons}
use Rattle.std.proofs.lemmas.Bool.Decides.{nat_tests}
use Rattle.std.proofs.lemmas.Bool.{cases_eq, eq-eqb, ne_eqb}
use Rattle.elements.specs.declared.entries.Entry.{Entry}
use Rattle.elements.specs.Order.{stamp_of}
use Rattle.stores.specs.SortedLists.{tally}
use Rattle.cancelled.specs.Cancelled.{queued, kept, cancelled, renamed, Front}
use Rattle.cancelled.proofs.Keeping.{kept_nil, length_parted, kept_empty}
use Rattle.cancelled.proofs.Places.{map_at}

renamed_at : (old new : ℕ) (marks : List ℕ) (k : ℕ) → 0 ≢ old → get_or (renamed old new marks) k 0 ≡ cond (eqb (get_or marks k 0) old) new (get_or marks k 0)
renamed_at old new [] k ne = rw (ne_eqb 0 old ne)
renamed_at old new (v ∷ vs) zero ne = refl
renamed_at old new (v ∷ vs) (suc k) ne = renamed_at old new vs k ne

pub renamed_queued : (old new : ℕ) (marks : List ℕ) (k : ℕ) → 0 < old → 0 < new → queued (renamed old new marks) k ≡ queued marks k
renamed_queued old new marks k a b = let e = renamed_at old new marks k (λ z. omega (arith, z)) in rw e (grind (arith, nat_tests))

pub renamed_within : (old new : ℕ) (marks : List ℕ) (k : ℕ) → 0 ≢ old → new ≤ 32 → get_or marks k 0 ≤ 32 → get_or (renamed old new marks) k 0 ≤ 32
renamed_within old new marks k ne a b = let e = renamed_at old new marks k ne in rw e (grind (arith, nat_tests))

module _ {T : Type 0} where
  pub kept_at : (marks : List ℕ) (xss : List (List (Entry T))) (q : ℕ) → get_or (map (kept marks) xss) q [] ≡ kept marks (get_or xss q [])
  kept_at marks xss q = map_at (kept marks) [] [] (kept_nil marks) xss q

  pub live_parted : (marks : List ℕ) (xss : List (List (Entry T))) → sum_by length xss ≡ sum_by length (map (kept marks) xss) + sum_by (cancelled marks) xss
  live_parted marks [] = omega arith
  live_parted marks (xs ∷ xss) = omega (arith, sum_by-cons length xs xss, sum_by-cons length (kept marks xs) (map (kept marks) xss), sum_by-cons (cancelled marks) xs xss, length_parted marks xs, live_parted marks xss)

  -- where nothing counts nothing is
  pub all_empty : (marks : List ℕ) (xss : List (List (Entry T))) → AllByRecursion (Front marks) xss → sum_by length (map (kept marks) xss) ≡ 0 → sum_by length xss ≡ 0
  all_empty marks [] a h = omega arith
  all_empty marks (xs ∷ xss) a h =
      let e = sum_by-cons length xs xss in
      let k = sum_by-cons length (kept marks xs) (map (kept marks) xss) in
      omega (arith, kept_empty marks xs a.0 (omega arith), all_empty marks xss a.1 (omega arith))

  abbrev Ties : List ℕ → List (List (Entry T)) → Type 0
  Ties marks kss = (q k : ℕ) → q < 32 → tally stamp_of (get_or kss q []) k ≡ cond (eqb (get_or marks k 0) (q + 1)) 1 0

  module _ (marks : List ℕ) (kss : List (List (Entry T))) (all : length kss ≡ 32) (t : Ties marks kss) where
    module _ (s q : ℕ) (zs : List (Entry T)) (fits : s < length marks) (near : q < 32) where
      pub ties_enter : ((p : ℕ) → tally stamp_of (get_or kss p []) s ≡ 0) → ((k : ℕ) → tally stamp_of zs k ≡ cond (eqb s k) 1 0 + tally stamp_of (get_or kss q []) k) → Ties (set marks s (q + 1)) (set kss q zs)
      ties_enter none more p k lt = go (cases_eq p q) (cases_eq k s)
        where
          go : (p ≡ q) ⊎ (p ≢ q) → (k ≡ s) ⊎ (k ≢ s) → tally stamp_of (get_or (set kss q zs) p []) k ≡ cond (eqb (get_or (set marks s (q + 1)) k 0) (p + 1)) 1 0
          go (inl e) (inl i) = rw (e, i, get_or-set_same kss q zs [] (omega arith), get_or-set_same marks s (q + 1) 0 fits, more s, none q, eq-eqb s s refl, eq-eqb (q + 1) (q + 1) refl)
          go (inl e) (inr i) = rw (e, get_or-set_same kss q zs [] (omega arith), get_or-set_other marks s k (q + 1) 0 i, more k, ne_eqb s k (λ j. i (sym j))) (omega (arith, t q k near))
          go (inr e) (inl i) = rw (i, get_or-set_other kss q p zs [] e, get_or-set_same marks s (q + 1) 0 fits, none p, ne_eqb (q + 1) (p + 1) (λ j. e (omega (arith, j))))
          go (inr e) (inr i) = rw (get_or-set_other kss q p zs [] e, get_or-set_other marks s k (q + 1) 0 i) (t p k lt)

      pub ties_leave : 1 ≤ tally stamp_of (get_or kss q []) s → ((k : ℕ) → tally stamp_of (get_or kss q []) k ≡ cond (eqb s k) 1 0 + tally stamp_of zs k) → Ties (set marks s 0) (set kss q zs)
      ties_leave some less p k lt = go (cases_eq p q) (cases_eq k s)
        where
          here : get_or marks s 0 ≡ q + 1
          here = let h = t q s near in grind (arith, nat_tests)

          go : (p ≡ q) ⊎ (p ≢ q) → (k ≡ s) ⊎ (k ≢ s) → tally stamp_of (get_or (set kss q zs) p []) k ≡ cond (eqb (get_or (set marks s 0) k 0) (p + 1)) 1 0
          go (inl e) (inl i) =
              let l = less s in let h = t q s near in let j = eq-eqb s s refl in
              let zero_left : tally stamp_of zs s ≡ 0 = grind (arith, nat_tests) in
              rw (e, i, get_or-set_same kss q zs [] (omega arith), get_or-set_same marks s 0 0 fits, ne_eqb 0 (q + 1) (λ z. omega (arith, z))) zero_left
          go (inl e) (inr i) =
              let l : tally stamp_of (get_or kss q []) k ≡ tally stamp_of zs k = less k ∙ rw (ne_eqb s k (λ j. i (sym j))) (omega arith) in
              rw (e, get_or-set_same kss q zs [] (omega arith), get_or-set_other marks s k 0 0 i) (sym l ∙ t q k near)
          go (inr e) (inl i) =
              let h : tally stamp_of (get_or kss p []) s ≡ 0 = t p s lt ∙ ap (λ b. cond b 1 0) (ap (λ v. eqb v (p + 1)) here ∙ ne_eqb (q + 1) (p + 1) (λ j. e (omega (arith, j)))) in
              rw (i, get_or-set_other kss q p zs [] e, get_or-set_same marks s 0 0 fits, ne_eqb 0 (p + 1) (λ z. omega (arith, z))) h
          go (inr e) (inr i) = rw (get_or-set_other kss q p zs [] e, get_or-set_other marks s k 0 0 i) (t p k lt)

  pub ties_join : (marks : List ℕ) (kss : List (List (Entry T))) → length kss ≡ 32 → Ties marks kss → (a b : ℕ) (zs : List (Entry T)) → a < 32 → b < 32 → a ≢ b → ((k : ℕ) → tally stamp_of zs k ≡ tally stamp_of (get_or kss a []) k + tally stamp_of (get_or kss b []) k) → Ties (renamed (b + 1) (a + 1) marks) (set (set kss a zs) b [])
  ties_join marks kss all t a b zs la lb ne both p k lt = go (cases_eq p b) (cases_eq p a)
    where
      r : get_or (renamed (b + 1) (a + 1) marks) k 0 ≡ cond (eqb (get_or marks k 0) (b + 1)) (a + 1) (get_or marks k 0)
      r = renamed_at (b + 1) (a + 1) marks k (λ z. omega (arith, z))

      go : (p ≡ b) ⊎ (p ≢ b) → (p ≡ a) ⊎ (p ≢ a) → tally stamp_of (get_or (set (set kss a zs) b []) p []) k ≡ cond (eqb (get_or (renamed (b + 1) (a + 1) marks) k 0) (p + 1)) 1 0
      go (inl e) i = rw (e, get_or-set_same (set kss a zs) b [] [] (omega (arith, length-set kss a zs)), r) (grind (arith, nat_tests))
      go (inr e) (inl i) = rw (get_or-set_other (set kss a zs) b p [] [] e, i, get_or-set_same kss a zs [] (omega arith), both k, r, t a k la, t b k lb) (grind (arith, nat_tests))
      go (inr e) (inr i) = rw (get_or-set_other (set kss a zs) b p [] [] e, get_or-set_other kss a p zs [] i, r, t p k lt) (grind (arith, nat_tests))
