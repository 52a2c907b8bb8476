-- The list of a queue, as cells are filled, emptied and moved.
use Rattle.std.proofs.Common.{◌≡◌, ℕ, zero, suc, ◌+◌, ◌<◌, ◌≤◌, Bool, true, false, cond, ◌||◌, eqb, List, [], ◌∷◌, map, length, set, replicate, is_some, Some, None, Option, sym, refl, ap, ◌∙◌, arith}
use Rattle.std.specs.List.{HoldsAt}
use Rattle.std.proofs.lemmas.List.{length-set, set-set, set-get_or, get_or-set_same}
use Rattle.std.proofs.lemmas.List.Sums.{sum_by-cons}
use Rattle.std.proofs.lemmas.Bool.{eq-eqb, ne_eqb, eqb-true}
use Rattle.std.proofs.lemmas.Bool.Decides.{nat_tests}
use Rattle.elements.specs.declared.entries.Entry.{Entry}
use Rattle.elements.specs.Order.{Laws, precedes_by, stamp_of}
use Rattle.elements.proofs.Strictness.{strict}
use Rattle.stores.specs.SortedLists.{merge, insert, tally, Sorted}
use Rattle.stores.proofs.Inserting.{length-insert, tally-insert, insert_swap, insert_first, insert_second, sorted_insert}
use Rattle.records.specs.declared.cells.Record.{Record}
use Rattle.records.specs.Cells.{Cell, entry_in, moved, entering, queue_of, queued, stamped, Holds}
use Rattle.records.proofs.Counts.{stamped_cons, stamped_gone}

module _ {T : Type 0} (le : T → T → Bool) where
  abbrev before : Entry T → Entry T → Bool
  before = precedes_by le

  abbrev when : Bool → Entry T → Option (Entry T)
  when b e = cond b (Some e) None

  -- a record enters the list of its own queue, and no other
  pub enters_own : (r : Record T) (xs : List (Entry T)) → entering le (entry_in r.queue (Some r)) xs ≡ insert before r.entry xs
  enters_own r xs = ap (λ b. entering le (when b r.entry) xs) (eq-eqb r.queue r.queue refl)

  pub enters_no_other : (q : ℕ) (r : Record T) (xs : List (Entry T)) → (q ≡ r.queue → ⊥) → entering le (entry_in q (Some r)) xs ≡ xs
  enters_no_other q r xs ne = ap (λ b. entering le (when b r.entry) xs) (ne_eqb r.queue q (λ e. ne (sym e)))

  -- what the record r adds to the entries of queue q that have the stamp k
  abbrev pub share : ℕ → ℕ → Record T → ℕ
  share q k r = cond (eqb r.queue q) (cond (eqb r.entry.stamp k) 1 0) 0

  pub tally_record : (q k : ℕ) (r : Record T) (xs : List (Entry T)) → tally stamp_of (entering le (entry_in q (Some r)) xs) k ≡ share q k r + tally stamp_of xs k
  tally_record q k r xs = elim (eqb r.queue q) as (λ b. tally stamp_of (entering le (when b r.entry) xs) k ≡ cond b (cond (eqb r.entry.stamp k) 1 0) 0 + tally stamp_of xs k) [ true ↦ tally-insert before stamp_of r.entry xs k | false ↦ omega arith ]

  pub length_record : (q : ℕ) (r : Record T) (xs : List (Entry T)) → length (entering le (entry_in q (Some r)) xs) ≡ cond (eqb r.queue q) 1 0 + length xs
  length_record q r xs = elim (eqb r.queue q) as (λ b. length (entering le (when b r.entry) xs) ≡ cond b 1 0 + length xs) [ true ↦ omega (arith, length-insert before r.entry xs) | false ↦ omega arith ]

  length_entering : (o : Option (Entry T)) (xs : List (Entry T)) → length (entering le o xs) ≡ cond (is_some o) 1 0 + length xs
  length_entering None xs = omega arith
  length_entering (Some e) xs = omega (arith, length-insert before e xs)

  -- a queue is as long as the cells say
  pub length_queue : (q : ℕ) (cs : List (Cell T)) → length (queue_of le q cs) ≡ queued q cs
  length_queue q [] = refl
  length_queue q (c ∷ cs) = omega (arith, length_queue q cs, length_entering (entry_in q c) (queue_of le q cs), sum_by-cons (λ (x : Cell T). cond {A = ℕ} (is_some (entry_in q x)) 1 0) c cs)

  -- a queue has a stamp no more often than the cells
  pub tally_queue : (q k : ℕ) (cs : List (Cell T)) → tally stamp_of (queue_of le q cs) k ≤ stamped k cs
  tally_queue q k [] = omega arith
  tally_queue q k (None ∷ cs) = omega (arith, tally_queue q k cs, stamped_cons {T = T} k None cs)
  tally_queue q k (Some r ∷ cs) =
      let i = tally_queue q k cs in
      let t = tally_record q k r (queue_of le q cs) in
      let s = stamped_cons k (Some r) cs in
      grind (arith, nat_tests)

  pub queue_clear : (q n : ℕ) → queue_of le q (replicate n None) ≡ []
  queue_clear q zero = refl
  queue_clear q (suc n) = queue_clear q n

  module _ (laws : Laws le) where
    -- two records with different stamps enter in either order
    swap_records : (q : ℕ) (s r : Record T) (xs : List (Entry T)) → (s.entry.stamp ≡ r.entry.stamp → ⊥) → entering le (entry_in q (Some s)) (entering le (entry_in q (Some r)) xs) ≡ entering le (entry_in q (Some r)) (entering le (entry_in q (Some s)) xs)
    swap_records q s r xs ne = go (eqb s.queue q) (eqb r.queue q)
      where
        go : (a b : Bool) → entering le (when a s.entry) (entering le (when b r.entry) xs) ≡ entering le (when b r.entry) (entering le (when a s.entry) xs)
        go true true = insert_swap before stamp_of (strict le laws) s.entry r.entry xs ne
        go true false = refl
        go false b = refl

    -- an empty cell gets a record with a new stamp
    pub queue_fill : (q : ℕ) (cs : List (Cell T)) (i : ℕ) (r : Record T) → i < length cs → HoldsAt (λ c. c ≡ None) cs i → stamped r.entry.stamp cs ≡ 0 → queue_of le q (set cs i (Some r)) ≡ entering le (entry_in q (Some r)) (queue_of le q cs)
    queue_fill q [] i r l free new = absurd (omega arith)
    queue_fill q (c ∷ cs) zero r l free new = ap (λ x. entering le (entry_in q (Some r)) (entering le (entry_in q x) (queue_of le q cs))) (sym (free c))
    queue_fill q (None ∷ cs) (suc i) r l free new = queue_fill q cs i r (omega arith) free (omega (arith, new, stamped_cons {T = T} r.entry.stamp None cs))
    queue_fill q (Some s ∷ cs) (suc i) r l free new =
        let n = stamped_cons r.entry.stamp (Some s) cs in
        ap (entering le (entry_in q (Some s))) (queue_fill q cs i r (omega arith) free (omega (arith, new, n)))
        ∙ swap_records q s r (queue_of le q cs) (λ e. grind (arith, nat_tests))

    -- a cell loses its record
    pub queue_drop : (q : ℕ) (cs : List (Cell T)) (i : ℕ) (r : Record T) → Holds cs i r → stamped r.entry.stamp cs ≤ 1 → queue_of le q cs ≡ entering le (entry_in q (Some r)) (queue_of le q (set cs i None))
    queue_drop q cs i r h n =
        ap (queue_of le q) (sym (set-set cs i None (Some r) ∙ ap (λ c. set cs i c) (sym (h.1 None)) ∙ set-get_or cs i None))
        ∙ queue_fill q (set cs i None) i r (omega (arith, h.0, length-set cs i None)) (λ d. get_or-set_same cs i None d h.0) (stamped_gone cs i r h n)

    pub sorted_queue : (q : ℕ) (cs : List (Cell T)) → ((k : ℕ) → stamped k cs ≤ 1) → Sorted before (queue_of le q cs)
    sorted_queue q [] n = tt
    sorted_queue q (None ∷ cs) n = sorted_queue q cs (λ k. omega (arith, n k, stamped_cons {T = T} k None cs))
    sorted_queue q (Some r ∷ cs) n = go (eqb r.queue q) (sorted_queue q cs (λ k. omega (arith, n k, stamped_cons k (Some r) cs)))
      where
        apart : (k : ℕ) → cond (eqb r.entry.stamp k) 1 0 + tally stamp_of (queue_of le q cs) k ≤ 1
        apart k = omega (arith, n k, stamped_cons k (Some r) cs, tally_queue q k cs)

        go : (b : Bool) → Sorted before (queue_of le q cs) → Sorted before (entering le (when b r.entry) (queue_of le q cs))
        go true s = sorted_insert before stamp_of (strict le laws) r.entry (queue_of le q cs) apart s
        go false s = s

    -- queue b goes into queue a
    module _ (a b : ℕ) (ne : a ≡ b → ⊥) where
      pub queue_moved_from : (cs : List (Cell T)) → queue_of le b (map (moved a b) cs) ≡ []
      queue_moved_from [] = refl
      queue_moved_from (None ∷ cs) = queue_moved_from cs
      queue_moved_from (Some r ∷ cs) =
          let none : eqb (cond (eqb r.queue b) a r.queue) b ≡ false = grind (arith, nat_tests) in
          ap (λ t. entering le (when t r.entry) (queue_of le b (map (moved a b) cs))) none ∙ queue_moved_from cs

      pub queue_moved_other : (q : ℕ) (cs : List (Cell T)) → (q ≡ a → ⊥) → (q ≡ b → ⊥) → queue_of le q (map (moved a b) cs) ≡ queue_of le q cs
      queue_moved_other q [] na nb = refl
      queue_moved_other q (None ∷ cs) na nb = queue_moved_other q cs na nb
      queue_moved_other q (Some r ∷ cs) na nb =
          let same : eqb (cond (eqb r.queue b) a r.queue) q ≡ eqb r.queue q = grind (arith, nat_tests) in
          λ j. entering le (when (same j) r.entry) (queue_moved_other q cs na nb j)

      into : (r : Record T) (xs ys : List (Entry T)) → ((k : ℕ) → cond (eqb r.entry.stamp k) 1 0 + tally stamp_of xs k ≤ 1) → entering le (entry_in a (moved a b (Some r))) (merge before xs ys) ≡ merge before (entering le (entry_in a (Some r)) xs) (entering le (entry_in b (Some r)) ys)
      into r xs ys apart = go (eqb r.queue a) (eqb r.queue b) (eqb (cond (eqb r.queue b) a r.queue) a) (grind (arith, nat_tests)) (λ x y. ne (sym (eqb-true r.queue a x) ∙ eqb-true r.queue b y))
        where
          go : (x y z : Bool) → z ≡ (x || y) → (x ≡ true → y ≡ true → ⊥) → entering le (when z r.entry) (merge before xs ys) ≡ merge before (entering le (when x r.entry) xs) (entering le (when y r.entry) ys)
          go true true z e never = absurd (never refl refl)
          go true false z e never = ap (λ t. entering le (when t r.entry) (merge before xs ys)) e ∙ insert_first before stamp_of (strict le laws) r.entry xs ys
          go false true z e never = ap (λ t. entering le (when t r.entry) (merge before xs ys)) e ∙ insert_second before stamp_of (strict le laws) r.entry xs ys apart
          go false false z e never = ap (λ t. entering le (when t r.entry) (merge before xs ys)) e

      pub queue_moved_into : (cs : List (Cell T)) → ((k : ℕ) → stamped k cs ≤ 1) → queue_of le a (map (moved a b) cs) ≡ merge before (queue_of le a cs) (queue_of le b cs)
      queue_moved_into [] n = refl
      queue_moved_into (None ∷ cs) n = queue_moved_into cs (λ k. omega (arith, n k, stamped_cons {T = T} k None cs))
      queue_moved_into (Some r ∷ cs) n =
          ap (entering le (entry_in a (moved a b (Some r)))) (queue_moved_into cs (λ k. omega (arith, n k, stamped_cons k (Some r) cs)))
          ∙ into r (queue_of le a cs) (queue_of le b cs) (λ k. omega (arith, n k, stamped_cons k (Some r) cs, tally_queue a k cs))
