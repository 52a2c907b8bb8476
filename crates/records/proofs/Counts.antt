-- Which cells are empty, and how many have a stamp, as cells are filled, emptied and moved.
use Rattle.std.proofs.Common.{◌≡◌, ℕ, zero, suc, ◌+◌, ◌<◌, ◌≤◌, true, false, cond, eqb, List, [], ◌∷◌, map, length, get_or, set, replicate, is_some, Some, None, count_by, position, sym, refl, ap, ◌∙◌, subst, arith}
use Rattle.std.specs.List.{HoldsAt, AllByRecursion}
use Rattle.std.proofs.ByRecursion.{All-get_or}
use Rattle.std.proofs.lemmas.List.Filters.{length-filter_both}
use Rattle.std.proofs.lemmas.List.Sums.{sum_by-cons, sum_by-set, length-filter, get_or-le-sum_by}
use Rattle.std.proofs.lemmas.Bool.{eq-eqb, eqb-true, false≢true}
use Rattle.records.specs.declared.cells.Record.{Record}
use Rattle.records.specs.Cells.{Cell, empty, has_stamp, moved, Numbered, occupied, stamped, Holds, StampedAt}
use Rattle.std.proofs.lemmas.List.Quantifiers.{position-Some}
use Rattle.records.proofs.Positions.{position_none}

module _ {T : Type 0} where
  -- what a cell adds to the count of a stamp
  abbrev pub mark : ℕ → Cell T → ℕ
  mark k c = cond (has_stamp k c) 1 0

  pub stamped_cons : (k : ℕ) (c : Cell T) (cs : List (Cell T)) → stamped k (c ∷ cs) ≡ mark k c + stamped k cs
  stamped_cons k c cs = sum_by-cons (mark k) c cs

  -- what is not occupied is empty
  occupied_or_empty : (cs : List (Cell T)) → occupied cs + count_by empty cs ≡ length cs
  occupied_or_empty cs = omega (arith, length-filter is_some cs, length-filter empty cs, length-filter_both is_some empty (λ _. refl) cs)

  nothing : (c : Cell T) → empty c ≡ true → c ≡ None
  nothing None e = refl
  nothing (Some r) e = absurd (false≢true e)

  pub none_empty : (cs : List (Cell T)) → None ≡ position empty cs → occupied cs ≡ length cs
  none_empty cs e = omega (arith, occupied_or_empty cs, position_none empty cs (sym e))

  pub one_empty : (cs : List (Cell T)) (i : ℕ) → Some i ≡ position empty cs → (i < length cs) × HoldsAt (λ c. c ≡ None) cs i × (occupied cs < length cs)
  one_empty cs i e =
      let p = position-Some empty cs i None (sym e) in
      let some = get_or-le-sum_by (λ (c : Cell T). cond {A = ℕ} (empty c) 1 0) cs i None p.0 in
      let one = ap (λ t. cond {A = ℕ} t 1 0) p.1 in
      (p.0, λ d. nothing (get_or cs i d) (position-Some empty cs i d (sym e)).1, omega (arith, occupied_or_empty cs, some, one))

  pub stamp_is : (k : ℕ) (cs : List (Cell T)) (i : ℕ) (r : Record T) → StampedAt k cs (Some (i, r)) → r.entry.stamp ≡ k
  stamp_is k cs i r h = eqb-true r.entry.stamp k (ap (has_stamp k) (sym (h.1.1 None)) ∙ (position-Some (has_stamp k) cs i None h.0).1)

  pub numbered_at : (cs : List (Cell T)) (i : ℕ) (r : Record T) → Holds cs i r → AllByRecursion Numbered cs → r.queue < 32
  numbered_at cs i r h n = subst Numbered (h.1 None) (All-get_or Numbered cs i None h.0 n)

  -- an empty cell gets the record r
  pub stamped_fill : (k : ℕ) (cs : List (Cell T)) (i : ℕ) (r : Record T) → i < length cs → HoldsAt (λ c. c ≡ None) cs i → stamped k (set cs i (Some r)) ≡ stamped k cs + cond (eqb r.entry.stamp k) 1 0
  stamped_fill k cs i r l free =
      let s = sum_by-set (mark k) cs i (Some r) None l in
      let m = ap (mark k) (free None) in
      omega (arith, s, m)

  -- a cell loses the record r
  pub stamped_drop : (k : ℕ) (cs : List (Cell T)) (i : ℕ) (r : Record T) → Holds cs i r → stamped k (set cs i None) + cond (eqb r.entry.stamp k) 1 0 ≡ stamped k cs
  stamped_drop k cs i r h =
      let s = sum_by-set (mark k) cs i None None h.0 in
      let m = ap (mark k) (h.1 None) in
      omega (arith, s, m)

  -- a stamp that is nowhere twice is nowhere once its record is gone
  pub stamped_gone : (cs : List (Cell T)) (i : ℕ) (r : Record T) → Holds cs i r → stamped r.entry.stamp cs ≤ 1 → stamped r.entry.stamp (set cs i None) ≡ 0
  stamped_gone cs i r h n =
      let d = stamped_drop r.entry.stamp cs i r h in
      let e = ap (λ b. cond {A = ℕ} b 1 0) (eq-eqb r.entry.stamp r.entry.stamp refl) in
      omega (arith, d, e, n)

  mark_moved : (k a b : ℕ) (c : Cell T) → mark k (moved a b c) ≡ mark k c
  mark_moved k a b None = refl
  mark_moved k a b (Some r) = refl

  pub stamped_moved : (k a b : ℕ) (cs : List (Cell T)) → stamped k (map (moved a b) cs) ≡ stamped k cs
  stamped_moved k a b [] = refl
  stamped_moved k a b (c ∷ cs) = omega (arith, stamped_cons k (moved a b c) (map (moved a b) cs), mark_moved k a b c, stamped_moved k a b cs, stamped_cons k c cs)

  numbered_here : (a b : ℕ) (c : Cell T) → a < 32 → Numbered c → Numbered (moved a b c)
  numbered_here a b None l h = tt
  numbered_here a b (Some r) l h = elim (eqb r.queue b) as (λ t. cond t a r.queue < 32) [ true ↦ l | false ↦ h ]

  pub numbered_moved : (a b : ℕ) (cs : List (Cell T)) → a < 32 → AllByRecursion Numbered cs → AllByRecursion Numbered (map (moved a b) cs)
  numbered_moved a b [] l h = tt
  numbered_moved a b (c ∷ cs) l h = (numbered_here a b c l h.0, numbered_moved a b cs l h.1)

-- no cell has a record
module _ (T : Type 0) where
  pub stamped_clear : (k n : ℕ) → stamped {T = T} k (replicate n None) ≡ 0
  stamped_clear k zero = refl
  stamped_clear k (suc n) = omega (arith, stamped_cons {T = T} k None (replicate n None), stamped_clear k n)

  pub numbered_clear : (n : ℕ) → AllByRecursion (Numbered {T = T}) (replicate n None)
  numbered_clear zero = tt
  numbered_clear (suc n) = (tt, numbered_clear n)
